-- Mixed-radix numbers of factor values.
use Rattle.std.proofs.Common.{◌≡◌, ℕ, zero, suc, ◌+◌, ◌-◌, ◌*◌, ◌<◌, ◌≤◌, ◌^◌, ◌/◌, ◌%◌, refl, arith, ◌∙◌, List, [], ◌∷◌, ◌++◌, length, drop, take, get_or, set, append_assoc}
use Rattle.std.specs.Prelude.{replicate}
use Rattle.std.proofs.Math.Nat.{mul-div_cancel_left, pow-suc, pow-le-pow_right}
use Rattle.std.proofs.Math.Seq.{take-suc-set}
use Rattle.std.proofs.lemmas.List.{drop-set-lt}
use Rattle.std.proofs.lemmas.Nat.{mul-le}
use Rattle.scram_types.specs.declared.specification.Factor.{Factor}
use Rattle.scram_types.specs.Specification.{Each, IsFactor}
use Rattle.choice_table.specs.Numbering.{combinations, digits_of, value_count, values_of}

-- If each factor of a list is valid, each factor after the first is valid.
pub after : (f : Factor) (fs : List Factor) → Each IsFactor (f ∷ fs) → Each IsFactor fs
after f fs known = λ i x e. known (suc i) x e

pub combinations_least : (fs : List Factor) → Each IsFactor fs → 1 ≤ combinations fs
combinations_least [] known = omega arith
combinations_least (f ∷ fs) known =
    let here = (known 0 f refl).count.enough in
    let rest = combinations_least fs (after f fs known) in
    mul-le 1 1 (length f.values) (combinations fs) (omega arith) rest

pub combinations_most : (fs : List Factor) → Each IsFactor fs → combinations fs ≤ 4 ^ length fs
combinations_most [] known = omega arith
combinations_most (f ∷ fs) known =
    let here = (known 0 f refl).count.few in
    let rest = combinations_most fs (after f fs known) in
    let product = mul-le (length f.values) (combinations fs) 4 (4 ^ length fs) here rest in
    let more = pow-suc 4 (length fs) in
    omega arith

pub value_count_least : (fs : List Factor) (x : ℕ) → Each IsFactor fs → x < length fs → 2 ≤ value_count fs x
value_count_least [] x known h = absurd (omega arith)
value_count_least (f ∷ fs) zero known h = (known 0 f refl).count.enough
value_count_least (f ∷ fs) (suc x) known h = value_count_least fs x (after f fs known) (omega arith)

pub value_count_most : (fs : List Factor) (x : ℕ) → Each IsFactor fs → x < length fs → value_count fs x ≤ 4
value_count_most [] x known h = absurd (omega arith)
value_count_most (f ∷ fs) zero known h = (known 0 f refl).count.few
value_count_most (f ∷ fs) (suc x) known h = value_count_most fs x (after f fs known) (omega arith)

-- The value of `combinations` for the factors from `x` on is the number of values of factor `x` times the value of
-- `combinations` for the factors after `x`.
pub combinations_drop : (fs : List Factor) (x : ℕ) → x < length fs → combinations (drop x fs) ≡ value_count fs x * combinations (drop (suc x) fs)
combinations_drop [] x h = absurd (omega arith)
combinations_drop (f ∷ fs) zero h = refl
combinations_drop (f ∷ fs) (suc x) h = combinations_drop fs x (omega arith)

pub digits_drop : (fs : List Factor) (vs : List ℕ) (x : ℕ) → x < length fs → x < length vs
    → digits_of (drop x fs) (drop x vs) ≡ get_or vs x 0 * combinations (drop (suc x) fs) + digits_of (drop (suc x) fs) (drop (suc x) vs)
digits_drop [] vs x h k = absurd (omega arith)
digits_drop (f ∷ fs) [] x h k = absurd (omega arith)
digits_drop (f ∷ fs) (v ∷ vs) zero h k = refl
digits_drop (f ∷ fs) (v ∷ vs) (suc x) h k = digits_drop fs vs x (omega arith) (omega arith)

pub values_drop : (fs : List Factor) (x digits : ℕ) → x < length fs
    → values_of (drop x fs) digits ≡ digits / combinations (drop (suc x) fs) ∷ values_of (drop (suc x) fs) (digits % combinations (drop (suc x) fs))
values_drop [] x digits h = absurd (omega arith)
values_drop (f ∷ fs) zero digits h = refl
values_drop (f ∷ fs) (suc x) digits h = values_drop fs x digits (omega arith)

pub drop_counted : (fs : List Factor) (x : ℕ) → Each IsFactor fs → Each IsFactor (drop x fs)
drop_counted fs zero known = known
drop_counted [] (suc x) known = known
drop_counted (f ∷ fs) (suc x) known = drop_counted fs x (after f fs known)

pub most_combinations : (fs : List Factor) → Each IsFactor fs → length fs ≤ 6 → combinations fs ≤ 4096
most_combinations fs known few =
    let wide : 4 ^ length fs ≤ 4 ^ 6 = pow-le-pow_right (omega arith) few in
    let most = combinations_most fs known in
    omega arith

pub product_step : (fs : List Factor) (x product : ℕ) → x < length fs → product * combinations (drop x fs) ≡ combinations fs
    → product * value_count fs x * combinations (drop (suc x) fs) ≡ combinations fs
product_step fs x product h so_far = let next = rw (combinations_drop fs x h) at so_far in omega (arith, next)

pub product_few : (fs : List Factor) (x product : ℕ) → Each IsFactor fs → length fs ≤ 6 → x < length fs → product * combinations (drop x fs) ≡ combinations fs
    → product * value_count fs x ≤ 4096
product_few fs x product known few h so_far =
    let next = product_step fs x product h so_far in
    let rest = combinations_least (drop (suc x) fs) (drop_counted fs (suc x) known) in
    let more = mul-le (product * value_count fs x) 1 (product * value_count fs x) (combinations (drop (suc x) fs)) (omega arith) rest in
    let most = most_combinations fs known few in
    omega arith

pub nothing_left : {A : Type 0} (xs : List A) (x : ℕ) → length xs ≤ x → drop x xs ≡ []
nothing_left [] zero h = refl
nothing_left [] (suc x) h = refl
nothing_left (y ∷ ys) zero h = absurd (omega arith)
nothing_left (y ∷ ys) (suc x) h = nothing_left ys x (omega arith)

pub product_end : (fs : List Factor) (x product : ℕ) → length fs ≤ x → product * combinations (drop x fs) ≡ combinations fs → product ≡ combinations fs
product_end fs x product past so_far = let end = rw (nothing_left fs x past) at so_far in omega (arith, end)

-- A step of the loop that computes the number of the factors' values keeps the loop's invariant.
pub digits_step : (fs : List Factor) (vs : List ℕ) (x number : ℕ) → x < length fs → x < length vs
    → number * combinations (drop x fs) + digits_of (drop x fs) (drop x vs) ≡ digits_of fs vs
    → (number * value_count fs x + get_or vs x 0) * combinations (drop (suc x) fs) + digits_of (drop (suc x) fs) (drop (suc x) vs) ≡ digits_of fs vs
digits_step fs vs x number h k so_far =
    let next = rw (combinations_drop fs x h, digits_drop fs vs x h k) at so_far in
    omega (arith, next)

-- A step of the loop that computes the number of the factors' values keeps a bound. After `x` steps, the number is at
-- most `85 * 4 ^ x - 85`, even if the values are arbitrary bytes.
pub few_digits : (count value x number : ℕ) → count ≤ 4 → value < 256 → x < 6 → number + 85 ≤ 85 * 4 ^ x → number * count + value + 85 ≤ 85 * 4 ^ suc x
few_digits count value x number few byte inside so_far =
    let product = mul-le number count number 4 (omega arith) few in
    let more = pow-suc 4 x in
    omega arith

pub digits_before_last : (x number : ℕ) → x < 6 → number + 85 ≤ 85 * 4 ^ x → number ≤ 87040
digits_before_last x number inside so_far =
    let wide : 4 ^ x ≤ 4 ^ 5 = (let last : x ≤ 5 = omega arith in pow-le-pow_right (omega arith) last) in
    omega arith

pub digits_room : (x number : ℕ) → x ≤ 6 → number + 85 ≤ 85 * 4 ^ x → number ≤ 348075
digits_room x number inside so_far =
    let wide : 4 ^ x ≤ 4 ^ 6 = pow-le-pow_right (omega arith) inside in
    omega arith

-- The value of `combinations` for the factors from `x` on, divided by the number of values of factor `x`, is the
-- value of `combinations` for the factors after `x`. The loop that computes values from a number relies on this at
-- each step.
pub place_step : (fs : List Factor) (x place : ℕ) → Each IsFactor fs → x < length fs → place ≡ combinations (drop x fs)
    → place / value_count fs x ≡ combinations (drop (suc x) fs)
place_step fs x place known h is =
    let some = value_count_least fs x known h in
    rw (is, combinations_drop fs x h) (mul-div_cancel_left (combinations (drop (suc x) fs)) (omega arith))

pub drop_one : (vs : List ℕ) (x : ℕ) → drop (suc x) vs ≡ drop 1 (drop x vs)
drop_one [] zero = refl
drop_one [] (suc x) = refl
drop_one (v ∷ vs) zero = refl
drop_one (v ∷ vs) (suc x) = drop_one vs x

pub place_left : (fs : List Factor) (x : ℕ) → Each IsFactor fs → 0 < combinations (drop (suc x) fs)
place_left fs x known = let least = combinations_least (drop (suc x) fs) (drop_counted fs (suc x) known) in omega arith

pub spelled_step : (fs : List Factor) (vs spelled : List ℕ) (x rest : ℕ) → x < length fs → x < length vs
    → take x vs ++ values_of (drop x fs) rest ≡ spelled
    → take (suc x) (set vs x (rest / combinations (drop (suc x) fs))) ++ values_of (drop (suc x) fs) (rest % combinations (drop (suc x) fs)) ≡ spelled
spelled_step fs vs spelled x rest h k so_far =
    rw (
      take-suc-set vs x (rest / combinations (drop (suc x) fs)) k,
      append_assoc (take x vs) (rest / combinations (drop (suc x) fs) ∷ []) (values_of (drop (suc x) fs) (rest % combinations (drop (suc x) fs))),
    )
    (let next = rw (values_drop fs x rest h) at so_far in next)

pub zeros_step : (vs : List ℕ) (x v : ℕ) → x < 6 → drop x vs ≡ replicate (6 - x) 0 → drop (suc x) (set vs x v) ≡ replicate (6 - suc x) 0
zeros_step vs x v inside zeros =
    let one_more : 6 - x ≡ suc (6 - suc x) = omega arith in
    drop-set-lt (suc x) vs x v (omega arith) ∙ (drop_one vs x ∙ (rw (zeros, one_more) refl))
