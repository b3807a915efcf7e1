use Rattle.std.proofs.Common.{◌≡◌, ◌++◌, drop, map}
use Rattle.kind_table.specs.Kinds.{variable_read}
use Rattle.document_explanations.specs.Wants.{variables_spaced}
use Rattle.document_explanations.proofs.listed.add_variables.Given as goal

abbrev pub invariant-loop-variable : goal.invariant-loop-variable
invariant-loop-variable l =
    l.lines ++ variables_spaced (map variable_read (drop l.variable-index l.variables)) ≡ l.initial.lines ++ variables_spaced (map variable_read l.variables)
