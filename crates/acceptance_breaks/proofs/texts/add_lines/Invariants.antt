use Rattle.std.proofs.Common.{◌≡◌, ◌++◌, drop}
use Rattle.acceptance_breaks.specs.Texts.{lines_text}
use Rattle.acceptance_breaks.proofs.texts.add_lines.Given as goal

abbrev pub invariant-loop-broken : goal.invariant-loop-broken
invariant-loop-broken l = l.text.items ++ lines_text l.spec (drop l.broken-index l.found) ≡ l.initial.text.items ++ lines_text l.spec l.found
