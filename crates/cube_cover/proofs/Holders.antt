-- The number of cubes that hold an environment.
use Rattle.std.proofs.Common.{◌≡◌, ◌∙◌, ℕ, zero, suc, ◌+◌, ◌<◌, ◌≤◌, refl, ap, sym, arith, Bool, true, false, not, ◌&&◌, ◌||◌, List, [], ◌∷◌, ◌++◌, length, take, get_or}
use Rattle.std.specs.Prelude.{nat_lt, if◌then◌else◌}
use Rattle.std.proofs.lemmas.List.{take_more}
use Rattle.scram_types.specs.declared.rows.Env.{Env}
use Rattle.scram_types.specs.Specification.{Parts}
use Rattle.scram_types.proofs.Naturals.{below_test}
use Rattle.cube_cover.specs.declared.cubes.Cube.{Cube}
use Rattle.cube_cover.specs.Cubes.{Agree, IsSplit, holders, holds, is_in, once}

pub held_by_none : (v : Env) → holders [] v ≡ 0
unfolding holders
held_by_none v = refl

pub held_more : (cubes : List Cube) (cube : Cube) (v : Env) → holders (cubes ++ cube ∷ []) v ≡ holders cubes v + once (holds cube v)
unfolding holders
held_more [] cube v = omega arith
held_more (first ∷ cubes) cube v = let before = held_more cubes cube v in omega arith

pub held_taken : (cubes : List Cube) (k : ℕ) (d : Cube) (v : Env) → k < length cubes → holders (take (k + 1) cubes) v ≡ holders (take k cubes) v + once (holds (get_or cubes k d) v)
held_taken cubes k d v low = ap (λ (xs : List Cube). holders xs v) (take_more cubes k d low) ∙ held_more (take k cubes) (get_or cubes k d) v

pub held_before : (cubes : List Cube) (k : ℕ) (v : Env) → holders (take k cubes) v ≤ holders cubes v
unfolding holders
held_before [] zero v = omega arith
held_before [] (suc k) v = omega arith
held_before (cube ∷ cubes) zero v = omega arith
held_before (cube ∷ cubes) (suc k) v = let before = held_before cubes k v in omega arith

-- An environment is in a list of cubes if and only if the number of cubes that hold it is greater than 0.
pub held_in : (cubes : List Cube) (v : Env) → is_in cubes v ≡ nat_lt 0 (holders cubes v)
unfolding holders is_in
held_in [] v = refl
held_in (cube ∷ cubes) v = first (holds cube v) (is_in cubes v) (holders cubes v) (held_in cubes v)
  where
    first : (h t : Bool) (n : ℕ) → t ≡ nat_lt 0 n → (h || t) ≡ nat_lt 0 (once h + n)
    first true t n e = sym (below_test 0 (once true + n) (omega arith))
    first false t n e = let same : n ≡ once false + n = omega arith in e ∙ ap (nat_lt 0) same

-- If no environment is held twice, the number of cubes that hold an environment is 1 if the environment is held, and
-- 0 otherwise.
pub held_once : (cubes : List Cube) (v : Env) → holders cubes v ≤ 1 → holders cubes v ≡ once (is_in cubes v)
held_once cubes v most = count (holders cubes v) most ∙ ap once (sym (held_in cubes v))
  where
    count : (n : ℕ) → n ≤ 1 → n ≡ once (nat_lt 0 n)
    count zero most = refl
    count (suc zero) most = refl
    count (suc (suc n)) most = absurd (omega arith)

-- Lemmas on sums of tests.

pub add_none : (n : ℕ) (b : Bool) → b ≡ false → n ≡ n + once b
add_none n true e = absurd (cc)
add_none n false e = omega arith

-- The test `c` is whether a cube holds an environment, `s` is whether the environment passes at all earlier places,
-- and `t` is whether it passes at the next place. If the cube holds the environment and one of the places fails, the
-- environment is counted once.
pub cut_more : (n : ℕ) (c s t : Bool) → (n + once (c && not s)) + once ((c && s) && not t) ≡ n + once (c && not (s && t))
cut_more n true true t = omega arith
cut_more n true false t = omega arith
cut_more n false s t = omega arith

-- If an environment is in a part, the next cube adds the same number to the count for the part as to the count for
-- all cubes. Otherwise, the count for the part stays 0.
pub part_more : (n : ℕ) (h p : Bool) → (if p then n else 0) + once (h && p) ≡ (if p then n + once h else 0)
part_more n true true = refl
part_more n true false = refl
part_more n false true = refl
part_more n false false = refl

-- Lemmas on the environments that the two lists of a split hold.

kept_whole : (b : Bool) → b ≡ (b && true)
kept_whole true = refl
kept_whole false = refl

kept_none : (b : Bool) → false ≡ (b && false)
kept_none true = refl
kept_none false = refl

module _ (spec : Parts) (cubes : List Cube) (by : Cube) (inside outside : List Cube) (parts : IsSplit spec cubes by inside outside) where
  pub split_within : Agree spec (is_in inside) (λ v. is_in cubes v && holds by v)
  split_within v scope =
      held_in inside v ∙ ap (nat_lt 0) (parts.within v scope) ∙ kept (holds by v) (holders cubes v) ∙ ap (λ (b : Bool). b && holds by v) (sym (held_in cubes v))
    where
      kept : (b : Bool) (n : ℕ) → nat_lt 0 (if b then n else 0) ≡ (nat_lt 0 n && b)
      kept true n = kept_whole (nat_lt 0 n)
      kept false n = kept_none (nat_lt 0 n)

  pub split_beyond : Agree spec (is_in outside) (λ v. is_in cubes v && not (holds by v))
  split_beyond v scope =
      held_in outside v ∙ ap (nat_lt 0) (parts.beyond v scope) ∙ kept (holds by v) (holders cubes v) ∙ ap (λ (b : Bool). b && not (holds by v)) (sym (held_in cubes v))
    where
      kept : (b : Bool) (n : ℕ) → nat_lt 0 (if b then 0 else n) ≡ (nat_lt 0 n && not b)
      kept true n = kept_none (nat_lt 0 n)
      kept false n = kept_whole (nat_lt 0 n)
