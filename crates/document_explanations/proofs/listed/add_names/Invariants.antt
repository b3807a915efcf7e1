use Rattle.std.proofs.Common.{◌≡◌, ◌++◌, drop}
use Rattle.document_explanations.specs.Wants.{names_spaced}
use Rattle.document_explanations.proofs.listed.add_names.Given as goal

abbrev pub invariant-loop-name : goal.invariant-loop-name
invariant-loop-name l = l.lines ++ names_spaced (drop l.name-index l.names) ≡ l.initial.lines ++ names_spaced l.names
