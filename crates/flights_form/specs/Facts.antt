-- The facts of a flight: the numbers that its line shows.
use Rattle.std.specs.Prelude.{ℕ, pos, ◌+◌, ◌-◌, ◌-ℤ◌, int_lt, List, [], ◌∷◌, length, nat_lt, Option, Some, None, option_map, if◌then◌else◌}
use Rattle.scram_types.specs.Lookups.{app_id}
use Rattle.scram_types.specs.Specification.{Parts}
use Rattle.scram_types.specs.declared.rows.Report.{Report}
use Rattle.scram_types.specs.declared.rows.Row.{Row}
use Rattle.scram_types.specs.declared.ids.ConfId.{ConfId}
use Rattle.scram_types.specs.declared.specification.AppSpec.{AppSpec}
use Rattle.flight_facts.specs.declared.gaps.Gap.{Gap}
use Rattle.flight_facts.specs.Gaps.{longest_gap}
use Rattle.flight_facts.specs.Margins.{bound_of}
use Rattle.flight_facts.specs.Unfinished.{count_unfinished}
use Rattle.flights_form.specs.declared.facts.AppGap.{AppGap}
use Rattle.flights_form.specs.declared.facts.FlightFacts.{FlightFacts}
use Rattle.flights_form.specs.declared.facts.Margin.{Margin}

-- The longest gap of application `a`, or `None` if the application has no gap.
abbrev pub gap_of_app : List Row → ℕ → Option AppGap
gap_of_app rows a = option_map (λ (gap : Gap). record { app = app_id a; gap = gap }) (longest_gap a 0 rows)

-- The longer of two gaps, or the first if they are equally long. If only one gap is present, the value is that gap.
-- If neither is present, the value is `None`.
abbrev pub greater_gap : Option AppGap → Option AppGap → Option AppGap
greater_gap None later = later
greater_gap (Some gap) None = Some gap
greater_gap (Some gap) (Some later) = if nat_lt gap.gap.frames later.gap.frames then Some later else Some gap

-- The longest gap of the applications in a list, or `None` if no application has a gap. The first application in the
-- list is application `a`. If several gaps are equally long, the value is the gap of the first of their applications.
abbrev pub greatest_gap : List Row → ℕ → List AppSpec → Option AppGap
greatest_gap rows a [] = None
greatest_gap rows a (app ∷ apps) = greater_gap (gap_of_app rows a) (greatest_gap rows (a + 1) apps)

-- The margin of a reconfiguration, given its target and its bound: the bound minus the number of frames that the
-- reconfiguration took. The margin is `None` if there is no target or no bound.
abbrev pub margin_to : Report → Option ConfId → Option ℕ → Option Margin
margin_to report None bound = None
margin_to report (Some to) None = None
margin_to report (Some to) (Some bound) = Some (record { frames = pos bound -ℤ pos (report.end - report.begin); report = report })

-- The margin of a reconfiguration, or `None` if the reconfiguration is unfinished or no bound is given for it.
abbrev pub margin_in : Parts → Report → Option Margin
margin_in spec report = margin_to report report.to (bound_of spec report)

-- The smaller of two margins, or the first if they are equal. If only one margin is present, the value is that
-- margin. If neither is present, the value is `None`.
abbrev pub lesser_margin : Option Margin → Option Margin → Option Margin
lesser_margin None later = later
lesser_margin (Some margin) None = Some margin
lesser_margin (Some margin) (Some later) = if int_lt later.frames margin.frames then Some later else Some margin

-- The minimum margin of the finished reconfigurations, with the first reconfiguration that has this margin, or `None`
-- if no reconfiguration has a margin.
abbrev pub least_margin : Parts → List Report → Option Margin
least_margin spec [] = None
least_margin spec (report ∷ reports) = lesser_margin (margin_in spec report) (least_margin spec reports)

-- The facts of a flight with the given rows and reports.
abbrev pub facts_of : Parts → List Row → List Report → FlightFacts
facts_of spec rows reports = record {
  frames = length rows;
  reconfigurations = length reports;
  unfinished = count_unfinished reports;
  gap = greatest_gap rows 0 spec.apps;
  margin = least_margin spec reports;
}
