-- No flight has a smaller margin than the reported minimum margin, or a longer gap than the reported longest gap.
use Rattle.std.proofs.Common.{◌≡◌, ◌∙◌, ◌<◌, ◌≤◌, ◌≤ℤ◌, ◌+◌, ℕ, zero, suc, ℤ, Bool, true, false, List, [], ◌∷◌, arith, length, refl, ap}
use Rattle.std.proofs.lemmas.Int.{ints}
use Rattle.std.specs.Prelude.{Option, Some, None, int_lt, nat_lt, slice_get, option_map, if◌then◌else◌}
use Rattle.scram_types.specs.Lookups.{app_id}
use Rattle.scram_types.specs.Specification.{Parts}
use Rattle.scram_types.specs.declared.rows.Report.{Report}
use Rattle.scram_types.specs.declared.rows.Row.{Row}
use Rattle.scram_types.specs.declared.specification.AppSpec.{AppSpec}
use Rattle.flight_facts.specs.declared.gaps.Gap.{Gap}
use Rattle.flight_facts.specs.Gaps.{longest_gap}
use Rattle.flights_form.specs.declared.facts.AppGap.{AppGap}
use Rattle.flights_form.specs.declared.facts.FlightFacts.{FlightFacts}
use Rattle.flights_form.specs.declared.facts.Margin.{Margin}
use Rattle.flights_form.specs.declared.outcomes.Outcome.{Outcome}
use Rattle.flights_form.specs.declared.outcomes.Outcome.TheVariants.{Flown}
use Rattle.flights_form.specs.declared.totals.FlightGap.{FlightGap}
use Rattle.flights_form.specs.declared.totals.FlightMargin.{FlightMargin}
use Rattle.flights_form.specs.Assurance.{IsAtLeastIn, IsAtLeastOf, IsAtMostIn, IsAtMostOf}
use Rattle.flights_form.specs.Facts.{gap_of_app, greater_gap, greatest_gap, least_margin, lesser_margin, margin_in}
use Rattle.flights_form.specs.Totals.{gap_in_flight, greater_in_flight, greatest_in_flights, least_in_flights, lesser_in_flight, margin_in_flight}

-- Lemmas that the smaller of two margins is at most each of them.

margin_picked : (first later : Margin) (t : Bool) → int_lt later.frames first.frames ≡ t → IsAtMostOf (if t then Some later else Some first) first.frames
margin_picked first later true is = record { margin = later; is = refl; at_most = omega (arith, ints) }
margin_picked first later false is = record { margin = first; is = refl; at_most = omega (arith, ints) }

margin_picked_later : (first later : Margin) (t : Bool) → int_lt later.frames first.frames ≡ t → IsAtMostOf (if t then Some later else Some first) later.frames
margin_picked_later first later true is = record { margin = later; is = refl; at_most = omega (arith, ints) }
margin_picked_later first later false is = record { margin = first; is = refl; at_most = omega (arith, ints) }

margin_first : (one later : Option Margin) (first : Margin) → one ≡ Some first → IsAtMostOf (lesser_margin one later) first.frames
margin_first one None first there = rw there (record { margin = first; is = refl; at_most = omega (arith, ints) })
margin_first one (Some later) first there = rw there (margin_picked first later (int_lt later.frames first.frames) refl)

margin_weaker : (told : Option Margin) (n m : ℤ) → n ≤ℤ m → IsAtMostOf told n → IsAtMostOf told m
margin_weaker told n m less is = record { margin = is.margin; is = is.is; at_most = let known = is.at_most in omega (arith, ints) }

margin_second : (one later : Option Margin) (n : ℤ) → IsAtMostOf later n → IsAtMostOf (lesser_margin one later) n
margin_second None later n is = is
margin_second (Some first) None n is = absurd (let e = is.is in cc)
margin_second (Some first) (Some later) n is =
    let same : later ≡ is.margin = let e = is.is in cc in
    let known = is.at_most in
    margin_weaker (lesser_margin (Some first) (Some later)) later.frames n (rw same known) (margin_picked_later first later (int_lt later.frames first.frames) refl)

-- The minimum margin of a flight is at most the margin of each of its reconfigurations.
pub margin_kept : (spec : Parts) (reports : List Report) (k : ℕ) (report : Report) (margin : Margin) → slice_get reports k ≡ Some report → margin_in spec report ≡ Some margin
    → IsAtMostOf (least_margin spec reports) margin.frames
margin_kept spec [] k report margin there is = absurd (let e = there in cc)
margin_kept spec (first ∷ reports) zero report margin there is =
    let same : first ≡ report = let e = there in cc in
    margin_first (margin_in spec first) (least_margin spec reports) margin (rw same is)
margin_kept spec (first ∷ reports) (suc k) report margin there is =
    margin_second (margin_in spec first) (least_margin spec reports) margin.frames (margin_kept spec reports k report margin there is)

-- Lemmas that the longer of two gaps is at least as long as each of them.

gap_picked : (first later : AppGap) (t : Bool) → nat_lt first.gap.frames later.gap.frames ≡ t → IsAtLeastOf (if t then Some later else Some first) first.gap.frames
gap_picked first later true is = record { gap = later; is = refl; at_least = grind arith }
gap_picked first later false is = record { gap = first; is = refl; at_least = grind arith }

gap_picked_later : (first later : AppGap) (t : Bool) → nat_lt first.gap.frames later.gap.frames ≡ t → IsAtLeastOf (if t then Some later else Some first) later.gap.frames
gap_picked_later first later true is = record { gap = later; is = refl; at_least = grind arith }
gap_picked_later first later false is = record { gap = first; is = refl; at_least = grind arith }

gap_first : (one later : Option AppGap) (first : AppGap) → one ≡ Some first → IsAtLeastOf (greater_gap one later) first.gap.frames
gap_first one None first there = rw there (record { gap = first; is = refl; at_least = grind arith })
gap_first one (Some later) first there = rw there (gap_picked first later (nat_lt first.gap.frames later.gap.frames) refl)

gap_weaker : (told : Option AppGap) (n m : ℕ) → m ≤ n → IsAtLeastOf told n → IsAtLeastOf told m
gap_weaker told n m less is = record { gap = is.gap; is = is.is; at_least = let known = is.at_least in omega arith }

gap_second : (one later : Option AppGap) (n : ℕ) → IsAtLeastOf later n → IsAtLeastOf (greater_gap one later) n
gap_second None later n is = is
gap_second (Some first) None n is = absurd (let e = is.is in cc)
gap_second (Some first) (Some later) n is =
    let same : later ≡ is.gap = let e = is.is in cc in
    let known = is.at_least in
    gap_weaker (greater_gap (Some first) (Some later)) later.gap.frames n (rw same known) (gap_picked_later first later (nat_lt first.gap.frames later.gap.frames) refl)

-- The longest gap of a flight is at least the gap of each application.
pub gap_kept : (rows : List Row) (a i : ℕ) (apps : List AppSpec) (gap : Gap) → i < length apps → longest_gap (a + i) 0 rows ≡ Some gap
    → IsAtLeastOf (greatest_gap rows a apps) gap.frames
gap_kept rows a i [] gap below is = absurd (omega (arith, below))
gap_kept rows a zero (app ∷ apps) gap below is =
    let same : a + 0 ≡ a = omega arith in
    let here : gap_of_app rows a ≡ Some (record { app = app_id a; gap = gap }) =
    ap (λ (o : Option Gap). option_map (λ (gap : Gap). record { app = app_id a; gap = gap }) o) (rw same at is) in
    gap_first (gap_of_app rows a) (greatest_gap rows (a + 1) apps) (record { app = app_id a; gap = gap }) here
gap_kept rows a (suc i) (app ∷ apps) gap below is =
    let next : a + suc i ≡ a + 1 + i = omega arith in
    gap_second (gap_of_app rows a) (greatest_gap rows (a + 1) apps) gap.frames (gap_kept rows (a + 1) i apps gap (omega (arith, below)) (rw next at is))

-- Lemmas that the smaller of the margins of two flights is at most each of them.

in_flight_picked : (first later : FlightMargin) (t : Bool) → int_lt later.frames first.frames ≡ t → IsAtMostIn (if t then Some later else Some first) first.frames
in_flight_picked first later true is = record { margin = later; is = refl; at_most = omega (arith, ints) }
in_flight_picked first later false is = record { margin = first; is = refl; at_most = omega (arith, ints) }

in_flight_picked_later : (first later : FlightMargin) (t : Bool) → int_lt later.frames first.frames ≡ t → IsAtMostIn (if t then Some later else Some first) later.frames
in_flight_picked_later first later true is = record { margin = later; is = refl; at_most = omega (arith, ints) }
in_flight_picked_later first later false is = record { margin = first; is = refl; at_most = omega (arith, ints) }

in_flight_first : (one later : Option FlightMargin) (first : FlightMargin) → one ≡ Some first → IsAtMostIn (lesser_in_flight one later) first.frames
in_flight_first one None first there = rw there (record { margin = first; is = refl; at_most = omega (arith, ints) })
in_flight_first one (Some later) first there = rw there (in_flight_picked first later (int_lt later.frames first.frames) refl)

in_flight_weaker : (told : Option FlightMargin) (n m : ℤ) → n ≤ℤ m → IsAtMostIn told n → IsAtMostIn told m
in_flight_weaker told n m less is = record { margin = is.margin; is = is.is; at_most = let known = is.at_most in omega (arith, ints) }

in_flight_second : (one later : Option FlightMargin) (n : ℤ) → IsAtMostIn later n → IsAtMostIn (lesser_in_flight one later) n
in_flight_second None later n is = is
in_flight_second (Some first) None n is = absurd (let e = is.is in cc)
in_flight_second (Some first) (Some later) n is =
    let same : later ≡ is.margin = let e = is.is in cc in
    let known = is.at_most in
    in_flight_weaker (lesser_in_flight (Some first) (Some later)) later.frames n (rw same known) (in_flight_picked_later first later (int_lt later.frames first.frames) refl)

-- The minimum margin of all flights is at most the minimum margin of each flight.
pub margin_total_kept : (n : ℕ) (outcomes : List Outcome) (k : ℕ) (facts : FlightFacts) (margin : Margin) → slice_get outcomes k ≡ Some (Flown facts) → facts.margin ≡ Some margin
    → IsAtMostIn (least_in_flights n outcomes) margin.frames
margin_total_kept n [] k facts margin there is = absurd (let e = there in cc)
margin_total_kept n (first ∷ outcomes) zero facts margin there is =
    let same : first ≡ Flown facts = let e = there in cc in
    let here : margin_in_flight n first ≡ Some (record { frames = margin.frames; flight = n }) =
    ap (λ (o : Outcome). margin_in_flight n o) same ∙ ap (λ (o : Option Margin). option_map (λ (margin : Margin). record { frames = margin.frames; flight = n }) o) is in
    in_flight_first (margin_in_flight n first) (least_in_flights (n + 1) outcomes) (record { frames = margin.frames; flight = n }) here
margin_total_kept n (first ∷ outcomes) (suc k) facts margin there is =
    in_flight_second (margin_in_flight n first) (least_in_flights (n + 1) outcomes) margin.frames (margin_total_kept (n + 1) outcomes k facts margin there is)

-- Lemmas that the longer of the gaps of two flights is at least as long as each of them.

gap_in_picked : (first later : FlightGap) (t : Bool) → nat_lt first.frames later.frames ≡ t → IsAtLeastIn (if t then Some later else Some first) first.frames
gap_in_picked first later true is = record { gap = later; is = refl; at_least = grind arith }
gap_in_picked first later false is = record { gap = first; is = refl; at_least = grind arith }

gap_in_picked_later : (first later : FlightGap) (t : Bool) → nat_lt first.frames later.frames ≡ t → IsAtLeastIn (if t then Some later else Some first) later.frames
gap_in_picked_later first later true is = record { gap = later; is = refl; at_least = grind arith }
gap_in_picked_later first later false is = record { gap = first; is = refl; at_least = grind arith }

gap_in_first : (one later : Option FlightGap) (first : FlightGap) → one ≡ Some first → IsAtLeastIn (greater_in_flight one later) first.frames
gap_in_first one None first there = rw there (record { gap = first; is = refl; at_least = grind arith })
gap_in_first one (Some later) first there = rw there (gap_in_picked first later (nat_lt first.frames later.frames) refl)

gap_in_weaker : (told : Option FlightGap) (n m : ℕ) → m ≤ n → IsAtLeastIn told n → IsAtLeastIn told m
gap_in_weaker told n m less is = record { gap = is.gap; is = is.is; at_least = let known = is.at_least in omega arith }

gap_in_second : (one later : Option FlightGap) (n : ℕ) → IsAtLeastIn later n → IsAtLeastIn (greater_in_flight one later) n
gap_in_second None later n is = is
gap_in_second (Some first) None n is = absurd (let e = is.is in cc)
gap_in_second (Some first) (Some later) n is =
    let same : later ≡ is.gap = let e = is.is in cc in
    let known = is.at_least in
    gap_in_weaker (greater_in_flight (Some first) (Some later)) later.frames n (rw same known) (gap_in_picked_later first later (nat_lt first.frames later.frames) refl)

-- The longest gap of all flights is at least the longest gap of each flight.
pub gap_total_kept : (n : ℕ) (outcomes : List Outcome) (k : ℕ) (facts : FlightFacts) (gap : AppGap) → slice_get outcomes k ≡ Some (Flown facts) → facts.gap ≡ Some gap
    → IsAtLeastIn (greatest_in_flights n outcomes) gap.gap.frames
gap_total_kept n [] k facts gap there is = absurd (let e = there in cc)
gap_total_kept n (first ∷ outcomes) zero facts gap there is =
    let same : first ≡ Flown facts = let e = there in cc in
    let here : gap_in_flight n first ≡ Some (record { frames = gap.gap.frames; flight = n }) =
    ap (λ (o : Outcome). gap_in_flight n o) same ∙ ap (λ (o : Option AppGap). option_map (λ (gap : AppGap). record { frames = gap.gap.frames; flight = n }) o) is in
    gap_in_first (gap_in_flight n first) (greatest_in_flights (n + 1) outcomes) (record { frames = gap.gap.frames; flight = n }) here
gap_total_kept n (first ∷ outcomes) (suc k) facts gap there is =
    gap_in_second (gap_in_flight n first) (greatest_in_flights (n + 1) outcomes) gap.gap.frames (gap_total_kept (n + 1) outcomes k facts gap there is)
