-- Including the outcome of the next line in the totals results in the totals of all lines up to this one.
use Rattle.std.proofs.Common.{◌≡◌, ◌∙◌, ℕ, ◌+◌, ◌≤◌, Bool, true, false, List, [], ◌∷◌, ◌++◌, arith, length, refl, sym, ap}
use Rattle.std.proofs.lemmas.Int.{ints}
use Rattle.std.proofs.lemmas.List.Sums.{count_by-le-length, sum_by-append}
use Rattle.std.specs.Prelude.{Option, Some, None, int_lt, nat_lt, if◌then◌else◌}
use Rattle.std.specs.List.{count_by}
use Rattle.flights_form.specs.declared.outcomes.Outcome.{Outcome}
use Rattle.flights_form.specs.declared.totals.FlightGap.{FlightGap}
use Rattle.flights_form.specs.declared.totals.FlightMargin.{FlightMargin}
use Rattle.flights_form.specs.declared.totals.Totals.{Totals}
use Rattle.flights_form.specs.Totals.{gap_in_flight, greater_in_flight, greatest_in_flights, is_refused, least_in_flights, lesser_in_flight, margin_in_flight, totals_of, with_outcome}

-- Lemmas on a list of outcomes to which a further outcome is appended. The minimum margin of the new list is the
-- smaller of the old list's minimum margin and the further outcome's margin.

lesser_none : (a : Option FlightMargin) → lesser_in_flight a None ≡ a
lesser_none None = refl
lesser_none (Some a) = refl

lesser_then_none : (s : Bool) (a b : FlightMargin) → lesser_in_flight (if s then Some b else Some a) None ≡ (if s then Some b else Some a)
lesser_then_none true a b = refl
lesser_then_none false a b = refl

lesser_three : (a b c : FlightMargin) (s t u : Bool) → int_lt b.frames a.frames ≡ s → int_lt c.frames b.frames ≡ t → int_lt c.frames a.frames ≡ u
    → lesser_in_flight (if s then Some b else Some a) (Some c) ≡ lesser_in_flight (Some a) (if t then Some c else Some b)
lesser_three a b c true true true first second third = rw (second, third) refl
lesser_three a b c true true false first second third = absurd (grind (arith, ints))
lesser_three a b c true false u first second third = rw (first, second) refl
lesser_three a b c false true u first second third = refl
lesser_three a b c false false true first second third = absurd (grind (arith, ints))
lesser_three a b c false false false first second third = rw (first, third) refl

lesser_assoc : (a b c : Option FlightMargin) → lesser_in_flight (lesser_in_flight a b) c ≡ lesser_in_flight a (lesser_in_flight b c)
lesser_assoc None b c = refl
lesser_assoc (Some a) None c = refl
lesser_assoc (Some a) (Some b) None = lesser_then_none (int_lt b.frames a.frames) a b
lesser_assoc (Some a) (Some b) (Some c) =
    lesser_three a b c (int_lt b.frames a.frames) (int_lt c.frames b.frames) (int_lt c.frames a.frames) refl refl refl

least_more : (k : ℕ) (outcomes : List Outcome) (outcome : Outcome)
    → least_in_flights k (outcomes ++ outcome ∷ []) ≡ lesser_in_flight (least_in_flights k outcomes) (margin_in_flight (k + length outcomes) outcome)
least_more k [] outcome = let same : k ≡ k + 0 = omega arith in lesser_none (margin_in_flight k outcome) ∙ ap (λ (n : ℕ). margin_in_flight n outcome) same
least_more k (first ∷ outcomes) outcome =
    let same : k + 1 + length outcomes ≡ k + length (first ∷ outcomes) = omega arith in
    ap (λ (rest : Option FlightMargin). lesser_in_flight (margin_in_flight k first) rest) (least_more (k + 1) outcomes outcome)
    ∙ sym (lesser_assoc (margin_in_flight k first) (least_in_flights (k + 1) outcomes) (margin_in_flight (k + 1 + length outcomes) outcome))
    ∙ ap (λ (n : ℕ). lesser_in_flight (least_in_flights k (first ∷ outcomes)) (margin_in_flight n outcome)) same

-- Lemmas on a list of outcomes to which a further outcome is appended. The longest gap of the new list is the longer
-- of the old list's longest gap and the further outcome's gap.

greater_none : (a : Option FlightGap) → greater_in_flight a None ≡ a
greater_none None = refl
greater_none (Some a) = refl

greater_then_none : (s : Bool) (a b : FlightGap) → greater_in_flight (if s then Some b else Some a) None ≡ (if s then Some b else Some a)
greater_then_none true a b = refl
greater_then_none false a b = refl

greater_three : (a b c : FlightGap) (s t u : Bool) → nat_lt a.frames b.frames ≡ s → nat_lt b.frames c.frames ≡ t → nat_lt a.frames c.frames ≡ u
    → greater_in_flight (if s then Some b else Some a) (Some c) ≡ greater_in_flight (Some a) (if t then Some c else Some b)
greater_three a b c true true true first second third = rw (second, third) refl
greater_three a b c true true false first second third = absurd (grind arith)
greater_three a b c true false u first second third = rw (first, second) refl
greater_three a b c false true u first second third = refl
greater_three a b c false false true first second third = absurd (grind arith)
greater_three a b c false false false first second third = rw (first, third) refl

greater_assoc : (a b c : Option FlightGap) → greater_in_flight (greater_in_flight a b) c ≡ greater_in_flight a (greater_in_flight b c)
greater_assoc None b c = refl
greater_assoc (Some a) None c = refl
greater_assoc (Some a) (Some b) None = greater_then_none (nat_lt a.frames b.frames) a b
greater_assoc (Some a) (Some b) (Some c) =
    greater_three a b c (nat_lt a.frames b.frames) (nat_lt b.frames c.frames) (nat_lt a.frames c.frames) refl refl refl

greatest_more : (k : ℕ) (outcomes : List Outcome) (outcome : Outcome)
    → greatest_in_flights k (outcomes ++ outcome ∷ []) ≡ greater_in_flight (greatest_in_flights k outcomes) (gap_in_flight (k + length outcomes) outcome)
greatest_more k [] outcome = let same : k ≡ k + 0 = omega arith in greater_none (gap_in_flight k outcome) ∙ ap (λ (n : ℕ). gap_in_flight n outcome) same
greatest_more k (first ∷ outcomes) outcome =
    let same : k + 1 + length outcomes ≡ k + length (first ∷ outcomes) = omega arith in
    ap (λ (rest : Option FlightGap). greater_in_flight (gap_in_flight k first) rest) (greatest_more (k + 1) outcomes outcome)
    ∙ sym (greater_assoc (gap_in_flight k first) (greatest_in_flights (k + 1) outcomes) (gap_in_flight (k + 1 + length outcomes) outcome))
    ∙ ap (λ (n : ℕ). greater_in_flight (greatest_in_flights k (first ∷ outcomes)) (gap_in_flight n outcome)) same

-- Lemmas that a further outcome adds one to the number of lines, and one to the number of refused lines if the
-- outcome is a refusal.

one_refused : (b : Bool) (n m : ℕ) → m ≡ n + (0 + (if b then 1 else 0)) → m ≡ n + (if b then 1 else 0)
one_refused true n m same = omega (arith, same)
one_refused false n m same = omega (arith, same)

refused_more : (outcomes : List Outcome) (outcome : Outcome) → count_by is_refused (outcomes ++ outcome ∷ []) ≡ count_by is_refused outcomes + (if is_refused outcome then 1 else 0)
refused_more outcomes outcome =
    one_refused (is_refused outcome) (count_by is_refused outcomes) (count_by is_refused (outcomes ++ outcome ∷ []))
    (sum_by-append (λ (o : Outcome). if is_refused o then 1 else 0) outcomes (outcome ∷ []))

lines_more : (outcomes : List Outcome) (outcome : Outcome) → length (outcomes ++ outcome ∷ []) ≡ length outcomes + 1
lines_more [] outcome = refl
lines_more (first ∷ outcomes) outcome = let rest = lines_more outcomes outcome in omega (arith, rest)

totals_same : (lines others refused rejected : ℕ) (margin least : Option FlightMargin) (gap greatest : Option FlightGap) → lines ≡ others → refused ≡ rejected → margin ≡ least → gap ≡ greatest
    → (a b : Totals) → a ≡ record { lines = lines; refused = refused; margin = margin; gap = gap } → b ≡ record { lines = others; refused = rejected; margin = least; gap = greatest } → a ≡ b
totals_same lines others refused rejected margin least gap greatest e f g h a b is that = cc

-- Including an outcome in the totals of the outcomes before it results in the totals of all these outcomes.
pub totals_more : (outcomes : List Outcome) (outcome : Outcome) → totals_of (outcomes ++ outcome ∷ []) ≡ with_outcome (totals_of outcomes) outcome
totals_more outcomes outcome =
    let from_first : 0 + length outcomes ≡ length outcomes = omega arith in
    totals_same _ _ _ _ _ _ _ _ (lines_more outcomes outcome) (refused_more outcomes outcome)
    (rw from_first at (least_more 0 outcomes outcome)) (rw from_first at (greatest_more 0 outcomes outcome))
    (totals_of (outcomes ++ outcome ∷ [])) (with_outcome (totals_of outcomes) outcome) refl refl

-- The number of refused lines is at most the number of lines.
pub few_refused : (outcomes : List Outcome) → (totals_of outcomes).refused ≤ (totals_of outcomes).lines
few_refused outcomes = count_by-le-length is_refused outcomes
