-- Acceptance refuses an invariant if and only if there is a way whose range the invariant has to contain but does not
-- contain.
use Rattle.std.proofs.Common.{ℕ, ℤ, zero, suc, ◌≡◌, ◌∙◌, Bool, true, false, not, List, [], ◌∷◌, ◌++◌, ap, arith, int_le, length, refl, sym}
use mathlib.Core.Logic.{inl, inr}
use Rattle.std.specs.Prelude.{pos, ◌&&◌, ◌||◌, ◌==◌, ◌≤ℤ◌, Option, Some, None, option_map, if◌then◌else◌}
use Rattle.std.specs.List.{list_any}
use Rattle.std.specs.Option.{option_or}
use Rattle.std.proofs.lemmas.Bool.{and_cases}
use Rattle.std.proofs.lemmas.Int.{ints}
use Rattle.scram_types.specs.declared.ids.ConfId.{ConfId}
use Rattle.scram_types.specs.declared.specification.Invariant.{Invariant}
use Rattle.scram_types.specs.declared.specification.Place.{Place}
use Rattle.scram_types.specs.Lookups.{conf_id, kind_of_app, place_of}
use Rattle.scram_types.specs.Searches.{any_below, first_below}
use Rattle.scram_types.specs.Specification.{Each, Parts}
use Rattle.std.proofs.Math.Bool.{or-false}
use Rattle.scram_types.proofs.Booleans.{and_left, and_right, and_true, or_cases, or_left, or_right, same_test, true_false}
use Rattle.scram_types.proofs.Integers.{int_is, int_of}
use Rattle.scram_types.proofs.Naturals.{differ_test, same_or_not}
use Rattle.scram_types.proofs.Searches.{all_false, any_below_found, any_below_is, fails_below}
use Rattle.kind_table.specs.Bounds.{during, ends}
use Rattle.kind_table.specs.Ranges.{mode_range}
use Rattle.choice_table.specs.Choices.{has_source}
use Rattle.coverage_check.specs.Holding.{breaks_from, holds_during, holds_leaving, holds_on_way, holds_range, holds_reached, holds_reaching}
use Rattle.coverage_check.specs.Search.{shown_if}
use Rattle.coverage_check.specs.Timing.{is_target}
use Rattle.condition_breaks.specs.declared.breaks.Way.{Way}
use Rattle.condition_breaks.specs.Lists.{gathered_below, one_if}
use Rattle.condition_breaks.specs.Ranges.{all_ways, first_unheld, is_other_target, is_unheld, other_ways, range_asked, way_of, way_to, ways_from}
use Rattle.condition_breaks.proofs.EachItem.{each_cons, each_gathered, each_one_if, each_rest}
use Rattle.condition_breaks.proofs.Firsts.{any_same, mapped_below, same_below}

some_before : {A : Type 0} (b : Bool) (x : A) (o p both : Option A) → both ≡ option_or o p → (if b then Some x else both) ≡ option_or (if b then Some x else o) p
some_before true x o p both e = refl
some_before false x o p both e = e

true_before : (b c d both : Bool) → both ≡ (c || d) → (b || both) ≡ ((b || c) || d)
true_before true c d both e = refl
true_before false c d both e = e

shown_before : {A B : Type 0} (f : A → B) (b : Bool) (x : A) (o : Option A) (c : Bool) (y : B) → f x ≡ y → option_map f o ≡ shown_if c y
    → option_map f (if b then Some x else o) ≡ shown_if (b || c) y
shown_before f true x o c y here later = ap Some here
shown_before f false x o c y here later = later

not_not : (b : Bool) → not b ≡ true → b ≡ false
not_not true e = sym e
not_not false e = refl

not_none : (b : Bool) → not b ≡ false → b ≡ true
not_none true e = refl
not_none false e = sym e

not_of : (a b : Bool) → b ≡ false → not (a && b) ≡ true
not_of true b e = rw e refl
not_of false b e = refl

neither : (a b : Bool) → (a || b) ≡ false → (a ≡ false) × (b ≡ false)
neither false b e = (refl, e)
neither true b e = true_false true refl e

-- An interval contains the statuses 4, 1 and 2 if and only if it contains the range from 1 to 4.
module _ (low high : ℤ) where
  holds : ℤ × ℤ → Bool
  holds range = holds_range low high range

  held_low : (range other : ℤ × ℤ) → other.0 ≤ℤ range.0 → range.1 ≤ℤ other.1 → holds other ≡ true → holds range ≡ true
  unfolding holds
  held_low range other below above held =
      let first : low ≤ℤ other.0 = int_of low other.0 (and_left (int_le low other.0) _ held) in
      let last : other.1 ≤ℤ high = int_of other.1 high (and_right (int_le low other.0) _ held) in
      and_true (int_le low range.0) (int_le range.1 high) (int_is low range.0 (omega (arith, ints))) (int_is range.1 high (omega (arith, ints)))

  statuses : ((holds (pos 4, pos 4) && holds (pos 1, pos 1)) && holds (pos 2, pos 2)) ≡ holds (pos 1, pos 4)
  unfolding holds
  statuses = same_test _ (holds (pos 1, pos 4))
      (λ all.
      (let both = and_left (holds (pos 4, pos 4) && holds (pos 1, pos 1)) _ all in
      let four = and_left (holds (pos 4, pos 4)) _ both in
      let one = and_right (holds (pos 4, pos 4)) _ both in
      and_true (int_le low (pos 1)) (int_le (pos 4) high) (and_left (int_le low (pos 1)) _ one) (and_right (int_le low (pos 4)) _ four)))
      (λ all.
      and_true (holds (pos 4, pos 4) && holds (pos 1, pos 1)) (holds (pos 2, pos 2))
      (and_true (holds (pos 4, pos 4)) (holds (pos 1, pos 1)) (held_low (pos 4, pos 4) (pos 1, pos 4) (omega (arith, ints)) (omega (arith, ints)) all)
      (held_low (pos 1, pos 1) (pos 1, pos 4) (omega (arith, ints)) (omega (arith, ints)) all))
      (held_low (pos 2, pos 2) (pos 1, pos 4) (omega (arith, ints)) (omega (arith, ints)) all))

  alike : (b : Bool) → ((b && b) && b) ≡ b
  alike true = refl
  alike false = refl

  -- The range that a variable can have with a status in a mode. If the variable is the status, this is the status
  -- alone. Otherwise it is the range of the variable in the mode.
  seen : Bool → ℤ × ℤ → ℕ → ℤ × ℤ
  seen is_status range status = if is_status then (pos status, pos status) else range

  leaving_held : (is_status : Bool) (range : ℤ × ℤ) → ((holds (seen is_status range 4) && holds (seen is_status range 1)) && holds (seen is_status range 2))
      ≡ holds (if is_status then (pos 1, pos 4) else seen is_status range 1)
  unfolding seen
  leaving_held true range = statuses
  leaving_held false range = alike (holds range)

  reaching_held : (is_status : Bool) (range : ℤ × ℤ) → (holds (seen is_status range 3) && holds (if is_status then (pos 1, pos 4) else seen is_status range 1))
      ≡ holds (if is_status then (pos 1, pos 4) else seen is_status range 1)
  unfolding seen
  reaching_held true range = same_test _ (holds (pos 1, pos 4)) (λ all. and_right (holds (pos 3, pos 3)) _ all)
      (λ all. and_true (holds (pos 3, pos 3)) _ (held_low (pos 3, pos 3) (pos 1, pos 4) (omega (arith, ints)) (omega (arith, ints)) all) all)
  reaching_held false range = twice_held (holds range)
    where
      twice_held : (b : Bool) → (b && b) ≡ b
      twice_held true = refl
      twice_held false = refl

module _ (spec : Parts) (inv : Invariant) where
  -- Whether the interval of the invariant contains the range in a place.
  in_place : Option Place → Bool
  in_place place = holds_range inv.least inv.greatest (range_asked spec inv place)

  leaving_is : (place : Option Place) → holds_leaving spec inv place ≡ in_place place
  unfolding in_place during holds seen
  leaving_is None = refl
  leaving_is (Some place) = leaving_held inv.least inv.greatest (inv.variable == 0) (ends (mode_range (kind_of_app spec inv.app.0) place.mode.0 inv.variable))

  reaching_is : (place : Option Place) → holds_reaching spec inv place ≡ in_place place
  unfolding in_place during holds seen
  reaching_is None = refl
  reaching_is (Some place) =
      ap (λ (b : Bool). holds_during spec inv 3 place.mode.0 && b) (leaving_is (Some place))
      ∙ reaching_held inv.least inv.greatest (inv.variable == 0) (ends (mode_range (kind_of_app spec inv.app.0) place.mode.0 inv.variable))

  -- Lemmas on the first way in concatenated lists whose range the invariant has to contain but does not contain.

  unheld_of_both : (xs ys : List Way) → first_unheld spec inv (xs ++ ys) ≡ option_or (first_unheld spec inv xs) (first_unheld spec inv ys)
  unheld_of_both [] ys = refl
  unheld_of_both (taken ∷ xs) ys =
      some_before (is_unheld spec inv taken) taken (first_unheld spec inv xs) (first_unheld spec inv ys) (first_unheld spec inv (xs ++ ys)) (unheld_of_both xs ys)

  pub unheld_gathered : (ways : ℕ → List Way) (n : ℕ) → first_unheld spec inv (gathered_below ways n) ≡ first_below (λ i. first_unheld spec inv (ways i)) n
  unheld_gathered ways zero = refl
  unheld_gathered ways (suc n) =
      unheld_of_both (gathered_below ways n) (ways n) ∙ ap (λ o. option_or o (first_unheld spec inv (ways n))) (unheld_gathered ways n)

  -- Lemmas on whether concatenated lists contain a way whose range the invariant has to contain but does not contain.

  any_of_both : (xs ys : List Way) → list_any (is_unheld spec inv) (xs ++ ys) ≡ (list_any (is_unheld spec inv) xs || list_any (is_unheld spec inv) ys)
  any_of_both [] ys = refl
  any_of_both (taken ∷ xs) ys =
      true_before (is_unheld spec inv taken) (list_any (is_unheld spec inv) xs) (list_any (is_unheld spec inv) ys) (list_any (is_unheld spec inv) (xs ++ ys)) (any_of_both xs ys)

  any_gathered : (ways : ℕ → List Way) (n : ℕ) → list_any (is_unheld spec inv) (gathered_below ways n) ≡ any_below (λ j. list_any (is_unheld spec inv) (ways j)) n
  any_gathered ways zero = refl
  any_gathered ways (suc n) =
      any_of_both (gathered_below ways n) (ways n) ∙ ap (λ t. t || list_any (is_unheld spec inv) (ways n)) (any_gathered ways n)

  any_one : (b : Bool) (taken : Way) → list_any (is_unheld spec inv) (one_if b taken) ≡ (b && is_unheld spec inv taken)
  any_one true taken = or-false (is_unheld spec inv taken)
  any_one false taken = refl

  -- Lemmas on the ways from source `i`.

  AreFrom : ℕ → List Way → Type 0
  AreFrom i ways = Each (λ (taken : Way). taken.from ≡ conf_id i) ways

  are_from : (i : ℕ) → AreFrom i (ways_from spec i)
  unfolding AreFrom
  are_from i =
      each_cons (λ (taken : Way). taken.from ≡ conf_id i) (way_of i i) (other_ways spec i) refl
      (each_gathered (λ (taken : Way). taken.from ≡ conf_id i) (way_to spec i) (length spec.confs) (λ j less.
      each_one_if (λ (taken : Way). taken.from ≡ conf_id i) (is_other_target spec i j) (way_of i j) refl))

  shown_from : {A : Type 0} (shown : ConfId → A) (i : ℕ) (ways : List Way) → AreFrom i ways
      → option_map (λ (taken : Way). shown taken.from) (first_unheld spec inv ways) ≡ shown_if (list_any (is_unheld spec inv) ways) (shown (conf_id i))
  unfolding AreFrom
  shown_from shown i [] from = refl
  shown_from shown i (taken ∷ ways) from =
      shown_before (λ (one : Way). shown one.from) (is_unheld spec inv taken) taken (first_unheld spec inv ways) (list_any (is_unheld spec inv) ways) (shown (conf_id i))
      (ap shown (from 0 taken refl)) (shown_from shown i ways (each_rest (λ (one : Way). one.from ≡ conf_id i) taken ways from))

  -- The test `breaks_from` passes for source `i` if and only if `is_unheld` passes for some way from `i`.
  module _ (i : ℕ) where
    speaks : Bool
    speaks = has_source inv.from (conf_id i)

    place : ℕ → Option Place
    place j = place_of spec (conf_id j) inv.app.0

    own : Bool
    own = is_unheld spec inv (way_of i i)

    another : ℕ → Bool
    another j = is_other_target spec i j && is_unheld spec inv (way_of i j)

    unheld_at : (j : ℕ) → speaks ≡ true → in_place (place j) ≡ false → is_unheld spec inv (way_of i j) ≡ true
    unfolding speaks place in_place
    unheld_at j s h = and_true speaks (not (in_place (place j))) s (rw h refl)

    not_held : (j : ℕ) → is_unheld spec inv (way_of i j) ≡ true → in_place (place j) ≡ false
    unfolding speaks place in_place
    not_held j u = not_not (in_place (place j)) (and_right speaks (not (in_place (place j))) u)

    broken_where : (own || any_below another (length spec.confs)) ≡ true → breaks_from spec inv (conf_id i) ≡ true
    unfolding speaks place in_place own another
    broken_where found = elim (or_cases own (any_below another (length spec.confs)) found) [
      | inl here ↦
          let s = and_left speaks _ here in
          let left : holds_leaving spec inv (place i) ≡ false = leaving_is (place i) ∙ not_held i here in
          and_true speaks (not (holds_leaving spec inv (place i) && holds_reached spec inv (conf_id i))) s (rw left refl)
      | inr there ↦
          let j = any_below_found another (length spec.confs) there in
          let taken = and_right (is_other_target spec i j.0) (is_unheld spec inv (way_of i j.0)) j.2 in
          let target = and_left (is_target spec (conf_id i) j.0) _ (and_left (is_other_target spec i j.0) _ j.2) in
          let reaching : holds_reaching spec inv (place j.0) ≡ false = reaching_is (place j.0) ∙ not_held j.0 taken in
          let way : holds_on_way spec inv (conf_id i) j.0 ≡ false = rw (target, reaching) refl in
          let reached : holds_reached spec inv (conf_id i) ≡ false = all_false (holds_on_way spec inv (conf_id i)) (length spec.confs) j.0 j.1 way in
          and_true speaks (not (holds_leaving spec inv (place i) && holds_reached spec inv (conf_id i))) (and_left speaks _ taken)
          (not_of (holds_leaving spec inv (place i)) (holds_reached spec inv (conf_id i)) reached)
    ]

    found_where : breaks_from spec inv (conf_id i) ≡ true → (own || any_below another (length spec.confs)) ≡ true
    unfolding speaks place in_place own another
    found_where breaks =
        let s = and_left speaks _ breaks in
        let unheld = not_not (holds_leaving spec inv (place i) && holds_reached spec inv (conf_id i)) (and_right speaks _ breaks) in
        elim (and_cases (holds_leaving spec inv (place i)) (holds_reached spec inv (conf_id i)) unheld) [
          | inl leaving ↦ or_left own (any_below another (length spec.confs)) (unheld_at i s (sym (leaving_is (place i)) ∙ leaving))
          | inr reached ↦
              let j = fails_below (holds_on_way spec inv (conf_id i)) (length spec.confs) reached in
              let apart = neither (not (is_target spec (conf_id i) j.0)) (holds_reaching spec inv (place j.0)) j.2 in
              let target = not_none (is_target spec (conf_id i) j.0) apart.0 in
              let unreached : in_place (place j.0) ≡ false = sym (reaching_is (place j.0)) ∙ apart.1 in
              elim (same_or_not i j.0) [
                | inl same ↦ or_left own (any_below another (length spec.confs)) (unheld_at i s (ap (λ (n : ℕ). in_place (place n)) same ∙ unreached))
                | inr other ↦ or_right own (any_below another (length spec.confs))
                    (any_below_is another (length spec.confs) j.0
                    (and_true (is_other_target spec i j.0) (is_unheld spec inv (way_of i j.0))
                    (and_true (is_target spec (conf_id i) j.0) (not (i == j.0)) target (let differ = differ_test i j.0 other in rw differ refl)) (unheld_at j.0 s unreached)) j.1)
              ]
        ]

    any_from : list_any (is_unheld spec inv) (ways_from spec i) ≡ (own || any_below another (length spec.confs))
    unfolding own another
    any_from = ap (λ (rest : Bool). is_unheld spec inv (way_of i i) || rest)
        (any_gathered (way_to spec i) (length spec.confs)
        ∙ any_same (λ j. list_any (is_unheld spec inv) (way_to spec i j)) (λ j. is_other_target spec i j && is_unheld spec inv (way_of i j)) (length spec.confs)
        (λ j. any_one (is_other_target spec i j) (way_of i j)))

    pub breaks_where : list_any (is_unheld spec inv) (ways_from spec i) ≡ breaks_from spec inv (conf_id i)
    breaks_where = any_from ∙ same_test (own || any_below another (length spec.confs)) (breaks_from spec inv (conf_id i)) broken_where found_where

  -- The source of the first way whose range is not contained is the configuration in the refusal.
  pub unheld_shown : {A : Type 0} (shown : ConfId → A)
      → option_map (λ (taken : Way). shown taken.from) (first_unheld spec inv (all_ways spec)) ≡ first_below (λ i. shown_if (breaks_from spec inv (conf_id i)) (shown (conf_id i))) (length spec.confs)
  unheld_shown shown =
      ap (option_map (λ (taken : Way). shown taken.from)) (unheld_gathered (ways_from spec) (length spec.confs))
      ∙ mapped_below (λ (taken : Way). shown taken.from) (λ i. first_unheld spec inv (ways_from spec i)) (length spec.confs)
      ∙ same_below (λ i. option_map (λ (taken : Way). shown taken.from) (first_unheld spec inv (ways_from spec i))) (λ i. shown_if (breaks_from spec inv (conf_id i)) (shown (conf_id i))) (length spec.confs)
      (λ i less. shown_from shown i (ways_from spec i) (are_from i) ∙ ap (λ (breaks : Bool). shown_if breaks (shown (conf_id i))) (breaks_where i))
