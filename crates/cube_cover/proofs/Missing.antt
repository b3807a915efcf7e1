-- Lemmas on the first environments in which the table misses demands, found region by region and demand by demand.
use Rattle.std.proofs.Common.{◌≡◌, ◌∙◌, ℕ, zero, suc, ◌+◌, ◌<◌, refl, ap, sym, subst, arith, Bool, true, false, not, ◌&&◌, ◌||◌, ◌⊎◌, List, [], ◌∷◌, ◌++◌, length, take, get_or}
use mathlib.Core.Logic.{inl, inr}
use Rattle.std.specs.Prelude.{Option, Some, slice_get}
use Rattle.std.proofs.lemmas.List.{take_more}
use Rattle.std.proofs.lemmas.Option.{slice_get-get_or, slice_get_within}
use Rattle.scram_types.specs.declared.ids.ConfId.{ConfId}
use Rattle.scram_types.specs.declared.rows.Env.{Env}
use Rattle.scram_types.specs.declared.demands.Demand.{Demand}
use Rattle.scram_types.specs.Bits.{bits_below, has_bit}
use Rattle.scram_types.specs.Lookups.{conf_id}
use Rattle.scram_types.specs.Specification.{IsSpec, Parts}
use Rattle.scram_types.proofs.BitSets.{has_bits}
use Rattle.scram_types.proofs.Equality.{same_conf}
use Rattle.scram_types.proofs.Options.{same_some}
use Rattle.choice_table.specs.Choices.{choose}
use Rattle.choice_table.specs.Demands.{applies_from, applies_in, is_met}
use Rattle.cube_cover.specs.declared.cubes.Cube.{Cube}
use Rattle.cube_cover.specs.declared.regions.Region.{Region}
use Rattle.cube_cover.specs.Covers.{IsLeastEnv}
use Rattle.cube_cover.specs.Cubes.{Agree, holds}
use Rattle.cube_cover.specs.Demands.{is_outside, misses}
use Rattle.cube_cover.specs.Regions.{AreAll, is_held, is_marked}
use Rattle.cube_cover.proofs.Marking.{marks_one}
use Rattle.cube_cover.proofs.Targets.{choose_inside}
use Rattle.cube_cover.proofs.Tests.{swap_and}

-- Lemmas on one region.

pub in_set : (met a h b : Bool) → met ≡ a → a ≡ true → ((not met && h) && b) ≡ false
in_set met a h b is e = rw (is, e) refl

pub not_both : (p h b : Bool) → (h && b) ≡ false → ((p && h) && b) ≡ false
not_both true h b e = e
not_both false h b e = refl

pub both_outside : (met a h b : Bool) → met ≡ a → a ≡ false → (h && b) ≡ ((not met && h) && b)
both_outside met a h b is e = rw (is, e) refl

-- `(t && h) || (c && h)` equals `(t || c) && h`.
either_part : (t c h : Bool) → ((t && h) || (c && h)) ≡ ((t || c) && h)
either_part true c true = refl
either_part true true false = refl
either_part true false false = refl
either_part false c h = refl

-- Within the cube `by`, an environment is marked by the first `k + 1` regions if and only if it is marked by the
-- first `k` regions, or held by the next region and the target of this region passes the test.
pub marked_more : (regions : List Region) (by : Cube) (passes : ℕ → Bool) (k : ℕ) (d : Region) (v : Env) → k < length regions
    → ((is_marked (take k regions) passes v && holds by v) || (is_held passes v (get_or regions k d) && holds by v)) ≡ (is_marked (take (k + 1) regions) passes v && holds by v)
marked_more regions by passes k d v low =
    either_part (is_marked (take k regions) passes v) (is_held passes v (get_or regions k d)) (holds by v)
    ∙ ap (λ (b : Bool). b && holds by v)
    (sym (ap (λ (rs : List Region). is_marked rs passes v) (take_more regions k d low) ∙ marks_one (take k regions) (get_or regions k d) passes v))

-- If a demand applies to configuration `i`, the table misses it in exactly those environments of the demand's cube
-- that are in a region of `i` whose target does not meet the demand.
pub missed : (spec : Parts) (made : IsSpec spec) (i : ConfId) (demand : Demand) (regions : List Region) (by : Cube) (met : ℕ) → i.0 < length spec.confs
    → AreAll spec i regions → Agree spec (holds by) (applies_in demand) → met ≡ bits_below (λ c. is_met spec demand (conf_id c)) 12 → applies_from demand i ≡ true
    → Agree spec (λ v. is_marked regions (is_outside met) v && holds by v) (misses spec demand i)
missed spec made i demand regions by met known all speaks is asks v scope =
    ap (λ (b : Bool). b && holds by v) (all (is_outside met) v scope ∙ ap not inside)
    ∙ ap (λ (b : Bool). not (is_met spec demand (choose spec i v)) && b) (speaks v scope)
    ∙ swap_and (not (is_met spec demand (choose spec i v))) (applies_in demand v)
    ∙ sym (ap (λ (b : Bool). b && applies_in demand v && not (is_met spec demand (choose spec i v))) asks)
  where
    low : (choose spec i v).0 < 12
    low = let less = choose_inside spec made i v known in let few = made.confs_count.few in omega arith

    inside : has_bit met (choose spec i v).0 ≡ is_met spec demand (choose spec i v)
    inside =
        ap (λ (n : ℕ). has_bit n (choose spec i v).0) is ∙ has_bits (λ c. is_met spec demand (conf_id c)) 12 (choose spec i v).0 low
        ∙ ap (is_met spec demand) (same_conf (conf_id (choose spec i v).0) (choose spec i v) refl)

-- An item of a list with an added item is an item of the list or the added item.

in_pushed : {A : Type 0} (xs : List A) (x : A) (k : ℕ) (y : A) → slice_get (xs ++ x ∷ []) k ≡ Some y → (slice_get xs k ≡ Some y) ⊎ ((k ≡ length xs) × (x ≡ y))
in_pushed [] x zero y h = inr (refl, same_some x y h)
in_pushed {A} [] x (suc k) y h = let past = slice_get_within {A = A} [] k y h in absurd (omega arith)
in_pushed (z ∷ xs) x zero y h = inl h
in_pushed (z ∷ xs) x (suc k) y h = elim (in_pushed xs x k y h) [ inl before ↦ inl before | inr last ↦ inr (ap suc last.0, last.1) ]

-- For each demand that has an entry in `found`, the entry is the first environment in which the table misses the
-- demand, or `None` if there is no such environment.
abbrev pub AreFound : Parts → ConfId → List (Option Env) → Type 0
AreFound spec i found = (k : ℕ) (demand : Demand) (env : Option Env) → slice_get spec.demands k ≡ Some demand → slice_get found k ≡ Some env → IsLeastEnv spec (misses spec demand i) env

pub found_more : (spec : Parts) (i : ConfId) (mid after : List (Option Env)) (k : ℕ) (d : Demand) (o : Option Env) → k < length spec.demands → length mid ≡ k → AreFound spec i mid
    → IsLeastEnv spec (misses spec (get_or spec.demands k d) i) o → after ≡ mid ++ o ∷ [] → AreFound spec i after
found_more spec i mid after k d o low counted so_far least is j demand env there h =
    elim (in_pushed mid o j env (sym (ap (λ xs. slice_get xs j) is) ∙ h)) [
      | inl before ↦ so_far j demand env there before
      | inr last ↦
          let at : slice_get spec.demands j ≡ Some (get_or spec.demands k d) = ap (slice_get spec.demands) (last.0 ∙ counted) ∙ slice_get-get_or spec.demands k d low in
          let same : get_or spec.demands k d ≡ demand = same_some (get_or spec.demands k d) demand (sym at ∙ there) in
          subst (λ (x : Demand). IsLeastEnv spec (misses spec x i) env) same (subst (IsLeastEnv spec (misses spec (get_or spec.demands k d) i)) last.1 least)
    ]
