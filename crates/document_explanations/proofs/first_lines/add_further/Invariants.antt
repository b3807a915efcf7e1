use Rattle.std.proofs.Common.{◌≡◌, ◌++◌, drop}
use Rattle.trace_text.specs.Names.{further_joined}
use Rattle.document_explanations.proofs.first_lines.add_further.Given as goal

abbrev pub invariant-loop-name : goal.invariant-loop-name
invariant-loop-name l = l.lines ++ further_joined (drop l.name-index l.names) ≡ l.initial.lines ++ further_joined l.names
