-- Lemmas on the splitting of a cube, place by place, and of a list of cubes, cube by cube.
use Rattle.std.proofs.Common.{◌≡◌, ◌∙◌, ℕ, ◌+◌, ◌<◌, refl, ap, sym, Bool, true, false, not, ◌&&◌, List, [], length, take, get_or}
use Rattle.std.specs.Prelude.{if◌then◌else◌}
use Rattle.scram_types.specs.declared.rows.Env.{Env}
use Rattle.scram_types.specs.Specification.{IsSpec, Parts}
use Rattle.scram_types.specs.Searches.{all_below}
use Rattle.scram_types.proofs.Booleans.{by_bool}
use Rattle.scram_types.proofs.Naturals.{plus_one}
use Rattle.cube_cover.specs.declared.cubes.Cube.{Cube}
use Rattle.cube_cover.specs.Cubes.{Agree, Gain, HasDigits, IsInScope, IsSplit, allows, holders, holds, once}
use Rattle.cube_cover.proofs.Holders.{cut_more, held_by_none, held_taken, part_more}
use Rattle.cube_cover.proofs.Holds.{and_last}
use Rattle.cube_cover.proofs.Scopes.{has_digits}

pub digits_in_scope : (spec : Parts) → IsSpec spec → (v : Env) → IsInScope spec v → HasDigits v
digits_in_scope spec made v scope = has_digits spec made v scope.belongs

-- A cube with no open digit at some place holds no environment.
pub shut : (cube : Cube) (v : Env) (is_open : Bool) → is_open ≡ false → (holds cube v ≡ true → is_open ≡ true) → holds cube v ≡ false
shut cube v is_open e h = by_bool (holds cube v) (λ t. let clash : true ≡ false = sym (h t) ∙ e in absurd (cc)) (λ f. f)

module _ (spec : Parts) (cube by rest next : Cube) (x : ℕ) where
  pub rest_more : Agree spec (holds rest) (λ v. holds cube v && all_below (allows by v) x) → Agree spec (holds next) (λ v. holds rest v && allows by v x)
      → Agree spec (holds next) (λ v. holds cube v && all_below (allows by v) (x + 1))
  rest_more before step v scope =
      step v scope ∙ ap (λ (b : Bool). b && allows by v x) (before v scope) ∙ sym (and_last (holds cube v) (all_below (allows by v) x) (allows by v x))
      ∙ ap (λ (n : ℕ). holds cube v && all_below (allows by v) n) (plus_one x)

  pub beyond_more : (old mid new : List Cube) → Agree spec (holds rest) (λ v. holds cube v && all_below (allows by v) x)
      → Gain spec old mid (λ v. holds cube v && not (all_below (allows by v) x)) → Gain spec mid new (λ v. holds rest v && not (allows by v x))
      → Gain spec old new (λ v. holds cube v && not (all_below (allows by v) (x + 1)))
  beyond_more old mid new before first second v scope =
      second v scope ∙ ap (λ (n : ℕ). n + once (holds rest v && not (allows by v x))) (first v scope)
      ∙ ap (λ (b : Bool). (holders old v + once (holds cube v && not (all_below (allows by v) x))) + once (b && not (allows by v x))) (before v scope)
      ∙ cut_more (holders old v) (holds cube v) (all_below (allows by v) x) (allows by v x)
      ∙ ap (λ (n : ℕ). holders old v + once (holds cube v && not (all_below (allows by v) n))) (plus_one x)

-- Suppose that a list holds the environments of the first `k` cubes that are in a part, and that the environments of
-- the next cube that are in the part are added. Then the list holds the environments of the first `k + 1` cubes that
-- are in the part.
pub parts_more : (spec : Parts) (cubes : List Cube) (k : ℕ) (d : Cube) (part : Env → Bool) (old new : List Cube) → k < length cubes
    → ((v : Env) → IsInScope spec v → holders old v ≡ (if part v then holders (take k cubes) v else 0)) → Gain spec old new (λ v. holds (get_or cubes k d) v && part v)
    → (v : Env) → IsInScope spec v → holders new v ≡ (if part v then holders (take (k + 1) cubes) v else 0)
parts_more spec cubes k d part old new low before gain v scope =
    gain v scope ∙ ap (λ (n : ℕ). n + once (holds (get_or cubes k d) v && part v)) (before v scope)
    ∙ part_more (holders (take k cubes) v) (holds (get_or cubes k d) v) (part v) ∙ ap (λ (n : ℕ). if part v then n else 0) (sym (held_taken cubes k d v low))

-- Lemmas on the environments outside of a cube, which are those that the cube does not hold.
pub outside_test : (n : ℕ) (b : Bool) → (if not b then n else 0) ≡ (if b then 0 else n)
outside_test n true = refl
outside_test n false = refl

pub none_split : (spec : Parts) (by : Cube) (inside outside : List Cube) → inside ≡ [] → outside ≡ [] → IsSplit spec [] by inside outside
none_split spec by inside outside e f = record {
  within = λ v scope. rw (e) (zero_either (holds by v) (holders [] v) (held_by_none v));
  beyond = λ v scope. rw (f) (either_zero (holds by v) (holders [] v) (held_by_none v));
}
  where
    zero_either : (b : Bool) (n : ℕ) → n ≡ 0 → n ≡ (if b then n else 0)
    zero_either true n e = refl
    zero_either false n e = e

    either_zero : (b : Bool) (n : ℕ) → n ≡ 0 → n ≡ (if b then 0 else n)
    either_zero true n e = e
    either_zero false n e = refl

-- If two cubes share no environment, the whole first cube lies outside of the second cube.

pub apart_beyond : (cube by : Cube) (v : Env) → (holds cube v && holds by v) ≡ false → holds cube v ≡ (holds cube v && not (holds by v))
apart_beyond cube by v e = part (holds cube v) (holds by v) e
  where
    part : (a b : Bool) → (a && b) ≡ false → a ≡ (a && not b)
    part true true e = absurd (cc)
    part true false e = refl
    part false b e = refl

pub not_met : (cube by : Cube) (v : Env) (met : Bool) → met ≡ false → ((holds cube v && holds by v) ≡ true → met ≡ true) → (holds cube v && holds by v) ≡ false
not_met cube by v met e h = by_bool (holds cube v && holds by v) (λ t. let clash : true ≡ false = sym (h t) ∙ e in absurd (cc)) (λ f. f)
