-- The number of environments in scope that a cube holds, and lists of cubes that hold no environment twice.
use Rattle.std.proofs.Common.{◌≡◌, ◌∙◌, ℕ, zero, suc, ◌+◌, ◌-◌, ◌*◌, ◌^◌, ◌<◌, ◌≤◌, ◌/◌, ◌%◌, refl, ap, sym, arith, Bool, true, false, ◌&&◌, List, [], ◌∷◌, ◌++◌, length, drop, take, get_or}
use mathlib.Core.Logic.{inl, inr}
use Rattle.std.specs.Prelude.{replicate, slice_index, if◌then◌else◌}
use Rattle.std.proofs.Math.Nat.{pow-le-pow_right, pow-suc}
use Rattle.std.proofs.lemmas.List.{length-append, length-replicate}
use Rattle.std.proofs.lemmas.Nat.{mul-le}
use Rattle.scram_types.specs.declared.rows.Env.{Env}
use Rattle.scram_types.specs.declared.specification.Factor.{Factor}
use Rattle.scram_types.specs.Bits.{count_below, has_bit}
use Rattle.scram_types.specs.Searches.{all_below}
use Rattle.scram_types.specs.Specification.{IsSpec, Parts}
use Rattle.scram_types.proofs.BitSets.{count_same}
use Rattle.scram_types.proofs.Booleans.{by_bool}
use Rattle.scram_types.proofs.Naturals.{low_or_high}
use Rattle.choice_table.specs.Environments.{factor_in}
use Rattle.choice_table.specs.Numbering.{combinations, environments, is_number_in_scope, numbered, value_count, values_of}
use Rattle.choice_table.proofs.Digits.{most_combinations, value_count_most}
use Rattle.choice_table.proofs.Inverses.{is_env}
use Rattle.cube_cover.specs.declared.cubes.Cube.{Cube}
use Rattle.cube_cover.specs.Cubes.{AreDisjoint, IsInScope, allows, holders, holds, is_in, once}
use Rattle.cube_cover.specs.Sizes.{allows_up, are_open, count_where, digit_of_processor, is_down_held, is_open_digit, open_ways, passes_at, sum_below}
use Rattle.cube_cover.proofs.Closed.{digit_factor, digit_processor}
use Rattle.cube_cover.proofs.Counts.{count_never, count_product, sum_both, sum_most, sum_once, sum_same, sum_zero}
use Rattle.cube_cover.proofs.Holders.{held_before, held_by_none, held_once, held_taken}

-- Lemmas that split a test of all places into a test of the factors and a test of the processors.

all_parts : (test : ℕ → Bool) (a n : ℕ) → all_below test (a + n) ≡ (all_below test a && all_below (λ k. test (a + k)) n)
all_parts test a zero = let e : a + 0 ≡ a = omega arith in rw (e) (keep (all_below test a))
  where
    keep : (b : Bool) → b ≡ (b && true)
    keep true = refl
    keep false = refl
all_parts test a (suc n) =
    let e : a + suc n ≡ suc (a + n) = omega arith in
    rw (e, all_parts test a n) (join (all_below test a) (all_below (λ k. test (a + k)) n) (test (a + n)))
  where
    join : (a b c : Bool) → ((a && b) && c) ≡ (a && (b && c))
    join true b c = refl
    join false b c = refl

all_same : (f g : ℕ → Bool) (n : ℕ) → ((k : ℕ) → k < n → f k ≡ g k) → all_below f n ≡ all_below g n
all_same f g zero same = refl
all_same f g (suc n) same = rw (all_same f g n (λ k less. same k (omega arith)), same n (omega arith)) refl

open_list : (cube : Cube) (values : List ℕ) → length values ≡ 6 → are_open cube 0 values ≡ all_below (λ x. is_open_digit cube x (slice_index values x)) 6
open_list cube (a ∷ b ∷ c ∷ d ∷ e ∷ f ∷ []) six =
    join (is_open_digit cube 0 a) (is_open_digit cube 1 b) (is_open_digit cube 2 c) (is_open_digit cube 3 d) (is_open_digit cube 4 e) (is_open_digit cube 5 f)
  where
    join : (a b c d e f : Bool) → (a && (b && (c && (d && (e && (f && true)))))) ≡ ((((((true && a) && b) && c) && d) && e) && f)
    join true true true true true true = refl
    join true true true true true false = refl
    join true true true true false f = refl
    join true true true false e f = refl
    join true true false d e f = refl
    join true false c d e f = refl
    join false b c d e f = refl
open_list cube [] six = absurd (omega arith)
open_list cube (a ∷ []) six = absurd (omega arith)
open_list cube (a ∷ b ∷ []) six = absurd (omega arith)
open_list cube (a ∷ b ∷ c ∷ []) six = absurd (omega arith)
open_list cube (a ∷ b ∷ c ∷ d ∷ []) six = absurd (omega arith)
open_list cube (a ∷ b ∷ c ∷ d ∷ e ∷ []) six = absurd (omega arith)
open_list cube (a ∷ b ∷ c ∷ d ∷ e ∷ f ∷ g ∷ more) six = absurd (omega arith)

-- A cube holds an environment if and only if the values of the environment's factors and the digits of its processors
-- are open.
pub held_by_parts : (cube : Cube) (v : Env) → length v.factors ≡ 6 → holds cube v ≡ (are_open cube 0 v.factors && allows_up cube v.up)
unfolding holds
held_by_parts cube v six =
    all_parts (allows cube v) 6 8
    ∙ ap (λ (b : Bool). b && all_below (λ k. allows cube v (6 + k)) 8)
    (all_same (allows cube v) (λ x. is_open_digit cube x (factor_in v x)) 6 (λ x low. ap (λ (d : ℕ). has_bit cube.bits (4 * x + d)) (digit_factor v x low)) ∙ sym (open_list cube v.factors six))
    ∙ ap (λ (b : Bool). are_open cube 0 v.factors && b)
    (all_same (λ k. allows cube v (6 + k)) (λ p. is_open_digit cube (6 + p) (digit_of_processor v.up p)) 8 (λ p low. ap (λ (d : ℕ). has_bit cube.bits (4 * (6 + p) + d)) (digit_processor v p)))

-- Lemmas on combinations of values.

from_first : (n : ℕ) → 0 + n ≡ n
from_first n = omega arith

open_both : (cube : Cube) (x : ℕ) (values rest : List ℕ) → are_open cube x (values ++ rest) ≡ (are_open cube x values && are_open cube (x + length values) rest)
open_both cube x [] rest = let e : x + 0 ≡ x = omega arith in rw (e) refl
open_both cube x (value ∷ values) rest =
    let e : x + suc (length values) ≡ suc x + length values = omega arith in
    rw (open_both cube (suc x) values rest, e) (join (is_open_digit cube x value) _ _)
  where
    join : (a b c : Bool) → (a && (b && c)) ≡ ((a && b) && c)
    join true b c = refl
    join false b c = refl

pub ways_counted : (cube : Cube) (x : ℕ) (factors : List Factor) → count_below (λ n. are_open cube x (values_of factors n)) (combinations factors) ≡ open_ways cube x factors
ways_counted cube x [] = refl
ways_counted cube x (factor ∷ factors) =
    count_product (is_open_digit cube x) (λ n. are_open cube (suc x) (values_of factors n)) (length factor.values) (combinations factors)
    ∙ ap (λ (n : ℕ). count_below (is_open_digit cube x) (length factor.values) * n) (ways_counted cube (suc x) factors)

values_length : (factors : List Factor) (digits : ℕ) → length (values_of factors digits) ≡ length factors
values_length [] digits = refl
values_length (factor ∷ factors) digits = ap suc (values_length factors (digits % combinations factors))

module _ (spec : Parts) (made : IsSpec spec) (cube : Cube) where
  abbrev zeros : List ℕ
  zeros = replicate (6 - length spec.factors) 0

  six_values : (n : ℕ) → length (values_of spec.factors n ++ zeros) ≡ 6
  six_values n =
      let few = made.factors_count in
      length-append (values_of spec.factors n) zeros ∙ rw (values_length spec.factors n, length-replicate {A = ℕ} (6 - length spec.factors) 0) (omega arith)

  -- `last` says whether digit 0 is open at each place past the last factor. The environment with number `n` is held by
  -- the cube and in scope if and only if it is in scope, the cube allows its set of processors, its combination of
  -- values is open, and `last` is true.
  held_parts : (n : ℕ) (last : Bool) → are_open cube (length spec.factors) zeros ≡ last → passes_at spec (holds cube) n
      ≡ (is_number_in_scope spec n && ((are_open cube 0 (values_of spec.factors (n % combinations spec.factors)) && last) && allows_up cube (numbered spec n).up))
  held_parts n last shut =
      ap (λ (b : Bool). is_number_in_scope spec n && b)
      (held_by_parts cube (numbered spec n) (six_values (n % combinations spec.factors))
      ∙ ap (λ (b : Bool). b && allows_up cube (numbered spec n).up)
      (open_both cube 0 (values_of spec.factors (n % combinations spec.factors)) zeros
      ∙ ap (λ (k : ℕ). are_open cube 0 (values_of spec.factors (n % combinations spec.factors)) && are_open cube k zeros) (from_first _ ∙ values_length spec.factors (n % combinations spec.factors))
      ∙ ap (λ (b : Bool). are_open cube 0 (values_of spec.factors (n % combinations spec.factors)) && b) shut))

  -- If digit 0 is open there, the environment is held and in scope if and only if its set of processors is allowed and
  -- its combination of values is open.
  held_number : (n : ℕ) → are_open cube (length spec.factors) zeros ≡ true → passes_at spec (holds cube) n
      ≡ (is_down_held spec cube (n / combinations spec.factors) && are_open cube 0 (values_of spec.factors (n % combinations spec.factors)))
  held_number n shut =
      held_parts n true shut
      ∙ turn (is_number_in_scope spec n) (are_open cube 0 (values_of spec.factors (n % combinations spec.factors))) (allows_up cube (numbered spec n).up)
    where
      turn : (s a u : Bool) → (s && ((a && true) && u)) ≡ ((u && s) && a)
      turn true true true = refl
      turn true true false = refl
      turn true false true = refl
      turn true false false = refl
      turn false a true = refl
      turn false a false = refl

  none_number : (n : ℕ) → are_open cube (length spec.factors) zeros ≡ false → passes_at spec (holds cube) n ≡ false
  none_number n shut =
      held_parts n false shut
      ∙ turn (is_number_in_scope spec n) (are_open cube 0 (values_of spec.factors (n % combinations spec.factors))) (allows_up cube (numbered spec n).up)
    where
      turn : (s a u : Bool) → (s && ((a && false) && u)) ≡ false
      turn true true u = refl
      turn true false u = refl
      turn false a u = refl

  -- If digit 0 is open at each place past the last factor, the number of environments in scope that the cube holds is
  -- a product. Its factors are the number of allowed sets of processors and the number of open combinations of
  -- values.
  pub size_counted : (sets ways : ℕ) → are_open cube (length spec.factors) zeros ≡ true → sets ≡ count_below (is_down_held spec cube) (2 ^ length spec.procs)
      → ways ≡ open_ways cube 0 spec.factors → sets * ways ≡ count_where spec (holds cube)
  size_counted sets ways shut sets_are ways_are =
      ap (λ (n : ℕ). n * ways) sets_are ∙ ap (λ (n : ℕ). count_below (is_down_held spec cube) (2 ^ length spec.procs) * n) (ways_are ∙ sym (ways_counted cube 0 spec.factors))
      ∙ sym (count_same (passes_at spec (holds cube)) _ (environments spec) (λ n less. held_number n shut)
      ∙ count_product (is_down_held spec cube) (λ n. are_open cube 0 (values_of spec.factors n)) (2 ^ length spec.procs) (combinations spec.factors))

  pub size_none : are_open cube (length spec.factors) zeros ≡ false → 0 ≡ count_where spec (holds cube)
  size_none shut = sym (count_never (passes_at spec (holds cube)) (environments spec) (λ n less. none_number n shut))

-- Lemmas on lists of cubes in which no two cubes hold the same environment.

-- The number of cubes that hold environment number `n`, or 0 if that environment is not in scope.
pub held_at : Parts → List Cube → ℕ → ℕ
held_at spec cubes n = if is_number_in_scope spec n then holders cubes (numbered spec n) else 0

module _ (spec : Parts) (made : IsSpec spec) (cubes : List Cube) (disjoint : AreDisjoint spec cubes) where
  known : (n : ℕ) → n < environments spec → is_number_in_scope spec n ≡ true → IsInScope spec (numbered spec n)
  known n less scope = record { belongs = is_env spec made.factors made.factors_count n less; scope = scope }

  held_few : (k n : ℕ) → n < environments spec → held_at spec (take k cubes) n ≤ 1
  unfolding held_at
  held_few k n less = by_bool (is_number_in_scope spec n)
      (λ scope. let most = disjoint (numbered spec n) (known n less scope) in let part = held_before cubes k (numbered spec n) in rw (scope) (omega arith))
      (λ out. rw (out) (omega arith))

  -- The numbers of environments in scope that the first `k` cubes hold add up to at most the number of environments
  -- of the specification.
  pub held_most : (k : ℕ) → sum_below (held_at spec (take k cubes)) (environments spec) ≤ environments spec
  held_most k = sum_most (held_at spec (take k cubes)) (environments spec) (λ n less. held_few k n less)

  -- Each environment in scope that some cube holds is counted once.
  pub held_all : sum_below (held_at spec cubes) (environments spec) ≡ count_where spec (is_in cubes)
  unfolding held_at holders
  held_all =
      sum_same (held_at spec cubes) (λ n. once (passes_at spec (is_in cubes) n)) (environments spec) (λ n less. by_bool (is_number_in_scope spec n)
      (λ scope. rw (scope) (held_once cubes (numbered spec n) (disjoint (numbered spec n) (known n less scope))))
      (λ out. rw (out) refl))
      ∙ sum_once (passes_at spec (is_in cubes)) (environments spec)

pub held_start : (spec : Parts) (cubes : List Cube) → sum_below (held_at spec (take 0 cubes)) (environments spec) ≡ 0
unfolding held_at
held_start spec cubes = sum_zero (held_at spec []) (environments spec) (λ n less. none (is_number_in_scope spec n) (holders [] (numbered spec n)) (held_by_none (numbered spec n)))
  where
    none : (b : Bool) (n : ℕ) → n ≡ 0 → (if b then n else 0) ≡ 0
    none true n e = e
    none false n e = refl

pub held_next : (spec : Parts) (cubes : List Cube) (k : ℕ) (d : Cube) → k < length cubes
    → sum_below (held_at spec (take (k + 1) cubes)) (environments spec) ≡ sum_below (held_at spec (take k cubes)) (environments spec) + count_where spec (holds (get_or cubes k d))
unfolding held_at
held_next spec cubes k d low =
    sum_same (held_at spec (take (k + 1) cubes)) (λ n. held_at spec (take k cubes) n + once (passes_at spec (holds (get_or cubes k d)) n)) (environments spec) (λ n less.
    ap (λ (m : ℕ). if is_number_in_scope spec n then m else 0) (held_taken cubes k d (numbered spec n) low)
    ∙ part (is_number_in_scope spec n) (holders (take k cubes) (numbered spec n)) (holds (get_or cubes k d) (numbered spec n)))
    ∙ sum_both (held_at spec (take k cubes)) (λ n. once (passes_at spec (holds (get_or cubes k d)) n)) (environments spec)
    ∙ ap (λ (n : ℕ). sum_below (held_at spec (take k cubes)) (environments spec) + n) (sum_once (passes_at spec (holds (get_or cubes k d))) (environments spec))
  where
    part : (s : Bool) (n : ℕ) (h : Bool) → (if s then n + once h else 0) ≡ (if s then n else 0) + once (s && h)
    part true n h = refl
    part false n h = refl

-- Lemmas on the loops that count.

pub ways_step : (cube : Cube) (factors : List Factor) (x product ways total : ℕ) → x < length factors → ways ≡ count_below (is_open_digit cube x) (value_count factors x)
    → product * open_ways cube x (drop x factors) ≡ total → product * ways * open_ways cube (x + 1) (drop (x + 1) factors) ≡ total
ways_step cube factors x product ways total low is so_far =
    let e : x + 1 ≡ suc x = omega arith in
    let next = rw (ways_drop cube x factors x low) at so_far in
    rw (is, e) (omega (arith, next))
  where
    ways_drop : (cube : Cube) (y : ℕ) (factors : List Factor) (x : ℕ) → x < length factors
        → open_ways cube y (drop x factors) ≡ count_below (is_open_digit cube y) (value_count factors x) * open_ways cube (suc y) (drop (suc x) factors)
    ways_drop cube y [] x low = absurd (omega arith)
    ways_drop cube y (factor ∷ factors) zero low = refl
    ways_drop cube y (factor ∷ factors) (suc x) low = ways_drop cube y factors x (omega arith)

pub few_ways : (product ways x : ℕ) → ways ≤ 4 → product ≤ 4 ^ x → x < 6 → product * ways ≤ 4 ^ (x + 1)
few_ways product ways x few so_far low =
    let next : x + 1 ≡ suc x = omega arith in
    let e = pow-suc 4 x in
    let all = mul-le product ways (4 ^ x) 4 so_far few in
    rw (next) (omega (arith, all, e))

pub ways_room : (product x : ℕ) → product ≤ 4 ^ x → x ≤ 6 → product ≤ 4096
ways_room product x so_far low = let wide : 4 ^ x ≤ 4 ^ 6 = pow-le-pow_right (omega arith) low in omega arith

pub few_values : (spec : Parts) → IsSpec spec → (x : ℕ) → value_count spec.factors x ≤ 4
few_values spec made x = elim (low_or_high x (length spec.factors)) [
  | inl low ↦ value_count_most spec.factors x made.factors low
  | inr high ↦ let none = past spec.factors x high in omega arith
]
  where
    past : (factors : List Factor) (x : ℕ) → length factors ≤ x → value_count factors x ≡ 0
    past [] x high = refl
    past (factor ∷ factors) zero high = absurd (omega arith)
    past (factor ∷ factors) (suc x) high = past factors x (omega arith)

pub zeros_rest : (cube : Cube) (x : ℕ) → x < 6 → is_open_digit cube x 0 ≡ true → are_open cube x (replicate (6 - x) 0) ≡ are_open cube (x + 1) (replicate (6 - (x + 1)) 0)
zeros_rest cube x low here =
    let more : 6 - x ≡ suc (6 - (x + 1)) = omega arith in
    let next : x + 1 ≡ suc x = omega arith in
    rw (more, here, next) refl

pub environments_few : (spec : Parts) → IsSpec spec → environments spec ≤ 1048576
environments_few spec made =
    let procs : 2 ^ length spec.procs ≤ 2 ^ 8 = pow-le-pow_right {n = 2} (omega arith) made.procs_count.few in
    let ways = most_combinations spec.factors made.factors made.factors_count in
    let all = mul-le (2 ^ length spec.procs) (combinations spec.factors) 256 4096 (omega arith) ways in
    omega (arith, all)
