use Rattle.std.proofs.Common.{◌≡◌, ◌++◌, drop, map}
use Rattle.document_explanations.specs.Wants.{further_listed}
use Rattle.document_explanations.proofs.listed.add_further.Given as goal

abbrev pub invariant-loop-item : goal.invariant-loop-item
invariant-loop-item g l =
    l.lines ++ further_listed (map g.S.Shown.shown (drop l.item-index l.items)) ≡ l.initial.lines ++ further_listed (map g.S.Shown.shown l.items)
