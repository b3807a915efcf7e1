-- The lines that are printed for flights.
use Rattle.std.specs.Prelude.{ℕ, List, [], ◌++◌, codes, decimal, Option, Some, None}
use Rattle.std.specs.Fmt.{signed_decimal}
use Rattle.scram_types.specs.Lookups.{app_name, conf_name}
use Rattle.scram_types.specs.Specification.{Parts}
use Rattle.trace_text.specs.Text.{target_text}
use Rattle.flights_form.specs.declared.facts.AppGap.{AppGap}
use Rattle.flights_form.specs.declared.facts.FlightFacts.{FlightFacts}
use Rattle.flights_form.specs.declared.facts.Margin.{Margin}
use Rattle.flights_form.specs.declared.totals.FlightGap.{FlightGap}
use Rattle.flights_form.specs.declared.totals.FlightMargin.{FlightMargin}
use Rattle.flights_form.specs.declared.totals.Totals.{Totals}

-- The text with the length of the longest gap in frames, the application that has the gap, and the first frame of the
-- gap. If there is no gap, the text has only the length 0.
abbrev pub greatest_text : Parts → Option AppGap → List ℕ
greatest_text spec None = codes " gap 0"
greatest_text spec (Some gap) = codes " gap " ++ decimal gap.gap.frames ++ codes " " ++ app_name spec gap.app.0 ++ codes " at " ++ decimal gap.gap.at

-- The text with the reconfiguration that has the minimum margin, and the margin. If there is no margin, the text has
-- `-` instead.
abbrev pub worst_text : Parts → Option Margin → List ℕ
worst_text spec None = codes " worst -"
worst_text spec (Some margin) =
    codes " worst " ++ conf_name spec margin.report.from.0 ++ target_text spec margin.report margin.report.to
    ++ codes " margin " ++ signed_decimal margin.frames

-- The line for flight `k`, which has the facts `facts`.
abbrev pub flown_line : Parts → ℕ → FlightFacts → List ℕ
flown_line spec k facts =
    codes "flight " ++ decimal k ++ codes " frames " ++ decimal facts.frames ++ codes " reconfigurations " ++ decimal facts.reconfigurations
    ++ codes " unfinished " ++ decimal facts.unfinished ++ greatest_text spec facts.gap ++ worst_text spec facts.margin ++ codes "\n"

-- The text that precedes the refusal in the line of flight `k`.
abbrev pub refused_start : ℕ → List ℕ
refused_start k = codes "flight " ++ decimal k ++ codes " "

-- The text with the minimum margin of all flights and the first flight that has this margin, or the empty text if
-- there is no margin.
abbrev pub margin_total : Option FlightMargin → List ℕ
margin_total None = []
margin_total (Some margin) = codes " margin " ++ signed_decimal margin.frames ++ codes " in flight " ++ decimal margin.flight

-- The text with the longest gap of all flights and the first flight that has a gap of this length, or the empty text
-- if there is no gap.
abbrev pub gap_total : Option FlightGap → List ℕ
gap_total None = []
gap_total (Some gap) = codes " gap " ++ decimal gap.frames ++ codes " in flight " ++ decimal gap.flight

-- The line with the totals of all flights, which is printed last.
abbrev pub totals_line : Totals → List ℕ
totals_line totals =
    codes "flights " ++ decimal totals.lines ++ codes " refused " ++ decimal totals.refused ++ margin_total totals.margin ++ gap_total totals.gap ++ codes "\n"
