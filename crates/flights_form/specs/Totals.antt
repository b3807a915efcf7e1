-- The totals of all flights.
use Rattle.std.specs.Prelude.{ℕ, ◌+◌, int_lt, Bool, true, false, List, [], ◌∷◌, length, nat_lt, Option, Some, None, option_map, if◌then◌else◌}
use Rattle.std.specs.List.{count_by}
use Rattle.flights_form.specs.declared.facts.AppGap.{AppGap}
use Rattle.flights_form.specs.declared.facts.Margin.{Margin}
use Rattle.flights_form.specs.declared.outcomes.Outcome.{Outcome}
use Rattle.flights_form.specs.declared.outcomes.Outcome.TheVariants.{Flown, Refused}
use Rattle.flights_form.specs.declared.totals.FlightGap.{FlightGap}
use Rattle.flights_form.specs.declared.totals.FlightMargin.{FlightMargin}
use Rattle.flights_form.specs.declared.totals.Totals.{Totals}

-- Whether an outcome is a refusal.
abbrev pub is_refused : Outcome → Bool
is_refused (Flown facts) = false
is_refused (Refused line) = true

-- The minimum margin of flight `k`, or `None` if the script was refused or the flight has no margin.
abbrev pub margin_in_flight : ℕ → Outcome → Option FlightMargin
margin_in_flight k (Flown facts) = option_map (λ (margin : Margin). record { frames = margin.frames; flight = k }) facts.margin
margin_in_flight k (Refused line) = None

-- The smaller of the margins of two flights, or the first if they are equal. If only one margin is present, the value
-- is that margin. If neither is present, the value is `None`.
abbrev pub lesser_in_flight : Option FlightMargin → Option FlightMargin → Option FlightMargin
lesser_in_flight None later = later
lesser_in_flight (Some margin) None = Some margin
lesser_in_flight (Some margin) (Some later) = if int_lt later.frames margin.frames then Some later else Some margin

-- The minimum margin of the flights with the given outcomes, and the first flight that has this margin. The value is
-- `None` if no flight has a margin. The first outcome is the outcome of flight `k`.
abbrev pub least_in_flights : ℕ → List Outcome → Option FlightMargin
least_in_flights k [] = None
least_in_flights k (outcome ∷ outcomes) = lesser_in_flight (margin_in_flight k outcome) (least_in_flights (k + 1) outcomes)

-- The longest gap of flight `k`, or `None` if the script was refused or the flight has no gap.
abbrev pub gap_in_flight : ℕ → Outcome → Option FlightGap
gap_in_flight k (Flown facts) = option_map (λ (gap : AppGap). record { frames = gap.gap.frames; flight = k }) facts.gap
gap_in_flight k (Refused line) = None

-- The longer of the gaps of two flights, or the first if they are equally long. If only one gap is present, the value
-- is that gap. If neither is present, the value is `None`.
abbrev pub greater_in_flight : Option FlightGap → Option FlightGap → Option FlightGap
greater_in_flight None later = later
greater_in_flight (Some gap) None = Some gap
greater_in_flight (Some gap) (Some later) = if nat_lt gap.frames later.frames then Some later else Some gap

-- The longest gap of the flights with the given outcomes, and the first flight that has a gap of this length. The
-- value is `None` if no flight has a gap. The first outcome is the outcome of flight `k`.
abbrev pub greatest_in_flights : ℕ → List Outcome → Option FlightGap
greatest_in_flights k [] = None
greatest_in_flights k (outcome ∷ outcomes) = greater_in_flight (gap_in_flight k outcome) (greatest_in_flights (k + 1) outcomes)

-- The totals of a list of outcomes: the numbers of lines and of refused lines, the minimum margin and the longest
-- gap.
abbrev pub totals_of : List Outcome → Totals
totals_of outcomes = record {
  lines = length outcomes;
  refused = count_by is_refused outcomes;
  margin = least_in_flights 0 outcomes;
  gap = greatest_in_flights 0 outcomes;
}

-- The totals of some lines, with the outcome of the next line included.
abbrev pub with_outcome : Totals → Outcome → Totals
with_outcome totals outcome = record {
  lines = totals.lines + 1;
  refused = totals.refused + (if is_refused outcome then 1 else 0);
  margin = lesser_in_flight totals.margin (margin_in_flight totals.lines outcome);
  gap = greater_in_flight totals.gap (gap_in_flight totals.lines outcome);
}
