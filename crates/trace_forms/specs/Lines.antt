-- The lines that `props` prints.
use Rattle.std.specs.Prelude.{ℕ, List, ◌++◌, codes, decimal}
use Rattle.scram_types.specs.declared.rows.Flown.{Flown}
use Rattle.trace_props.specs.declared.breaks.Broken.{Broken}
use Rattle.trace_props.specs.Breaks.{property_number}
use Rattle.form_base.specs.Lines.{counts_text}

-- The line for a trace for which the six properties of reconfigurations hold. The line has the number of frames and
-- the number of reconfigurations.
abbrev pub holds_line : Flown → List ℕ
holds_line flown = codes "holds:" ++ counts_text flown.rows flown.reports ++ codes "\n"

-- The line for a trace that breaks a property, with the number of the first such property and the frame in which the
-- trace breaks it.
abbrev pub broken_line : Broken → List ℕ
broken_line broken = codes "broken: SP" ++ decimal (property_number broken.property) ++ codes " at frame " ++ decimal broken.frame ++ codes "\n"
