-- Reconfigurations that the end of a flight cut off.
use Rattle.std.specs.Prelude.{ℕ, List, Bool, true, false, Option, Some, None}
use Rattle.std.specs.List.{count_by}
use Rattle.scram_types.specs.declared.ids.ConfId.{ConfId}
use Rattle.scram_types.specs.declared.rows.Report.{Report}

-- Whether a reconfiguration has no target. This is the case if the flight ended before the reconfiguration ended.
abbrev pub has_no_target : Option ConfId → Bool
has_no_target None = true
has_no_target (Some to) = false

-- The number of reconfigurations that the end of the flight cut off.
abbrev pub count_unfinished : List Report → ℕ
count_unfinished reports = count_by (λ (report : Report). has_no_target report.to) reports
