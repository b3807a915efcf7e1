-- The line that refuses a trace.
use Rattle.std.specs.Prelude.{ℕ, List, ◌++◌, codes, decimal}
use Rattle.trace_text.specs.declared.trace_reading.TraceFault.{TraceFault}

-- The line that refuses a trace, with the number of the broken rule and the number of the line that breaks the rule.
abbrev pub broken_trace_line : TraceFault → List ℕ
broken_trace_line fault = codes "refused: trace rule " ++ decimal fault.rule ++ codes " at line " ++ decimal fault.line ++ codes "\n"
