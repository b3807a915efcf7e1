-- The interval in the place of an invariant is the smallest that contains all ranges that the invariant has to
-- contain.
use Rattle.std.proofs.Common.{ℕ, ℤ, suc, ◌≡◌, ◌∙◌, Bool, true, false, List, [], ◌∷◌, ap, arith, int_le, refl, subst, sym}
use Rattle.std.specs.Prelude.{pos, ◌≤ℤ◌, Option, Some, None, option_map, slice_get, if◌then◌else◌}
use Rattle.std.specs.Int.{int_max, int_min}
use Rattle.std.specs.Option.{option_map_or}
use Rattle.std.proofs.lemmas.Int.{int_max_is, int_min_is, ints}
use Rattle.scram_types.specs.declared.specification.Invariant.{Invariant}
use Rattle.scram_types.specs.Specification.{Each, Parts}
use Rattle.scram_types.proofs.Booleans.{and_left, and_right, and_true, true_false}
use Rattle.scram_types.proofs.Integers.{int_is, int_of}
use Rattle.scram_types.proofs.Options.{same_some, some_none}
use Rattle.choice_table.specs.Choices.{has_source}
use Rattle.coverage_check.specs.Holding.{holds_range}
use Rattle.flight_facts.specs.declared.extremes.Extremes.{Extremes}
use Rattle.condition_breaks.specs.declared.breaks.Break.{Break}
use Rattle.condition_breaks.specs.declared.breaks.Break.TheVariants as broken
use Rattle.condition_breaks.specs.declared.breaks.Way.{Way}
use Rattle.condition_breaks.specs.Breaks.{unheld, unheld_of}
use Rattle.condition_breaks.specs.Laws.{IsLeastInterval, NeededIsLeast}
use Rattle.condition_breaks.specs.Ranges.{all_ways, first_unheld, hull, hull_of, hull_on, interval, is_unheld, range_on}
use Rattle.condition_breaks.proofs.EachItem.{each_cons, each_none, each_rest}

-- Lemmas on an interval that lies within another.
record Within (inner outer : Extremes) : Type 0 where
  low : outer.least ≤ℤ inner.least
  high : inner.greatest ≤ℤ outer.greatest

within_self : (e : Extremes) → Within e e
within_self e = record { low = omega (arith, ints); high = omega (arith, ints) }

within_both : (a b c : Extremes) → Within a b → Within b c → Within a c
within_both a b c first second = let f = first.low in let g = second.low in let h = first.high in let k = second.high in
    record { low = omega (arith, ints); high = omega (arith, ints) }

min_first : (a b : ℤ) → int_min a b ≤ℤ a
min_first a b = let is = int_min_is a b in omega (arith, ints, is)

min_second : (a b : ℤ) → int_min a b ≤ℤ b
min_second a b = let is = int_min_is a b in omega (arith, ints, is)

min_least : (a b c : ℤ) → c ≤ℤ a → c ≤ℤ b → c ≤ℤ int_min a b
min_least a b c first second = let is = int_min_is a b in omega (arith, ints, is)

max_first : (a b : ℤ) → a ≤ℤ int_max a b
max_first a b = let is = int_max_is a b in omega (arith, ints, is)

max_second : (a b : ℤ) → b ≤ℤ int_max a b
max_second a b = let is = int_max_is a b in omega (arith, ints, is)

max_most : (a b c : ℤ) → a ≤ℤ c → b ≤ℤ c → int_max a b ≤ℤ c
max_most a b c first second = let is = int_max_is a b in omega (arith, ints, is)

module _ (spec : Parts) (inv : Invariant) where
  speaks : Way → Bool
  speaks taken = has_source inv.from taken.from

  -- Lemmas on an interval that is extended by one more range.

  more_grown : (b : Bool) (held : Extremes) (range : ℤ × ℤ) → Within held (if b then hull held range else held)
  more_grown true held range = record { low = min_first held.least range.0; high = max_first held.greatest range.1 }
  more_grown false held range = within_self held

  more_holds : (b : Bool) (held : Extremes) (range : ℤ × ℤ) → b ≡ true → Within (interval range) (if b then hull held range else held)
  more_holds true held range e = record { low = min_second held.least range.0; high = max_second held.greatest range.1 }
  more_holds false held range e = true_false false e refl

  more_lies : (b : Bool) (held outer : Extremes) (range : ℤ × ℤ) → (b ≡ true → Within (interval range) outer) → Within held outer → Within (if b then hull held range else held) outer
  more_lies true held outer range asked before =
      let here = asked refl in
      record { low = min_least held.least range.0 outer.least before.low here.low; high = max_most held.greatest range.1 outer.greatest before.high here.high }
  more_lies false held outer range asked before = before

  -- Lemmas on an interval that is extended by the ranges of all ways.

  grown : (ways : List Way) (held : Extremes) → Within held (hull_of spec inv held ways)
  grown [] held = within_self held
  grown (taken ∷ ways) held =
      within_both held (hull_on spec inv held taken) (hull_of spec inv (hull_on spec inv held taken) ways)
      (more_grown (has_source inv.from taken.from) held (range_on spec inv taken)) (grown ways (hull_on spec inv held taken))

  held_where : (range : ℤ × ℤ) (outer : Extremes) → Within (interval range) outer → holds_range outer.least outer.greatest range ≡ true
  held_where range outer inside =
      and_true (int_le outer.least range.0) (int_le range.1 outer.greatest) (int_is outer.least range.0 inside.low) (int_is range.1 outer.greatest inside.high)

  where_held : (range : ℤ × ℤ) (outer : Extremes) → holds_range outer.least outer.greatest range ≡ true → Within (interval range) outer
  where_held range outer held = record {
    low = int_of outer.least range.0 (and_left (int_le outer.least range.0) _ held);
    high = int_of range.1 outer.greatest (and_right (int_le outer.least range.0) _ held);
  }

  Held : Extremes → Way → Type 0
  Held outer taken = has_source inv.from taken.from ≡ true → holds_range outer.least outer.greatest (range_on spec inv taken) ≡ true

  all_held : (ways : List Way) (held : Extremes) → Each (Held (hull_of spec inv held ways)) ways
  unfolding Held
  all_held [] held = each_none (Held held)
  all_held (taken ∷ ways) held =
      each_cons (Held (hull_of spec inv held (taken ∷ ways))) taken ways
      (λ s. held_where (range_on spec inv taken) (hull_of spec inv held (taken ∷ ways))
      (within_both (interval (range_on spec inv taken)) (hull_on spec inv held taken) (hull_of spec inv held (taken ∷ ways))
      (more_holds (has_source inv.from taken.from) held (range_on spec inv taken) s) (grown ways (hull_on spec inv held taken))))
      (all_held ways (hull_on spec inv held taken))

  all_lie : (ways : List Way) (held outer : Extremes) → Within held outer → Each (Held outer) ways → Within (hull_of spec inv held ways) outer
  unfolding Held
  all_lie [] held outer before each = before
  all_lie (taken ∷ ways) held outer before each =
      all_lie ways (hull_on spec inv held taken) outer
      (more_lies (has_source inv.from taken.from) held outer (range_on spec inv taken) (λ s. where_held (range_on spec inv taken) outer (each 0 taken refl s)) before)
      (each_rest (Held outer) taken ways each)

  -- The first way whose range is not contained is one of the ways, and its range is not contained.
  member_of : (b : Bool) (taken : Way) (ways : List Way) (found : Way) → is_unheld spec inv taken ≡ b → (if b then Some taken else first_unheld spec inv ways) ≡ Some found
      → (first_unheld spec inv ways ≡ Some found → (i : ℕ) × (slice_get ways i ≡ Some found) × (is_unheld spec inv found ≡ true))
      → (i : ℕ) × (slice_get (taken ∷ ways) i ≡ Some found) × (is_unheld spec inv found ≡ true)
  member_of true taken ways found is e later = let same = same_some taken found e in (0, e, subst (λ (way : Way). is_unheld spec inv way ≡ true) same is)
  member_of false taken ways found is e later = let more = later e in (suc more.0, more.1, more.2)

  member : (ways : List Way) (found : Way) → first_unheld spec inv ways ≡ Some found → (i : ℕ) × (slice_get ways i ≡ Some found) × (is_unheld spec inv found ≡ true)
  member [] found e = some_none found (sym e)
  member (taken ∷ ways) found e = member_of (is_unheld spec inv taken) taken ways found refl e (member ways found)

  least_of : (ways : List Way) (first : Way) → ways ≡ all_ways spec → first_unheld spec inv ways ≡ Some first
      → IsLeastInterval spec inv (hull_of spec inv (interval (range_on spec inv first)) (all_ways spec))
  unfolding Held
  least_of ways first all e =
      let stands = member ways first e in
      record {
        holds = all_held (all_ways spec) (interval (range_on spec inv first));
        least = λ low high asked.
            (let here = asked stands.0 first (subst (λ (each : List Way). slice_get each stands.0 ≡ Some first) all stands.1) (and_left (has_source inv.from first.from) _ stands.2) in
            let outer : Extremes = record { least = low; greatest = high } in
            let inside = all_lie (all_ways spec) (interval (range_on spec inv first)) outer (where_held (range_on spec inv first) outer here) asked in
            (inside.low, inside.high));
      }

-- Lemmas on the interval in the place of an invariant.
needed_in : Break → Extremes
needed_in (broken.Unheld found) = found.needed
needed_in other = interval (pos 0, pos 0)

mapped : {A B : Type 0} (f : A → B) (o : Option A) (y : B) → option_map f o ≡ Some y → (x : A) × (o ≡ Some x) × (f x ≡ y)
mapped f None y e = some_none y (sym e)
mapped f (Some x) y e = (x, refl, same_some (f x) y e)

pub needed_is_least : NeededIsLeast
unfolding needed_in
needed_is_least spec k inv found there e =
    let first = mapped (unheld spec k inv) (first_unheld spec inv (all_ways spec)) (broken.Unheld found)
    (ap (λ (o : Option Invariant). option_map_or (unheld_of spec k) o None) (sym there) ∙ e) in
    subst (IsLeastInterval spec inv) (ap needed_in first.2) (least_of spec inv (all_ways spec) first.0 refl first.1)
