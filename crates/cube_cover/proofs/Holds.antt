-- The environments that a cube holds after one place is narrowed.
use Rattle.std.proofs.Common.{◌≡◌, ◌≢◌, ◌∙◌, ℕ, zero, suc, ◌+◌, ◌*◌, ◌^◌, ◌<◌, refl, ap, sym, arith, Bool, true, false, not, ◌&&◌, ◌||◌}
use mathlib.Core.Logic.{inl, inr}
use Rattle.std.specs.Prelude.{◌==◌, bit_and, bit_or}
use Rattle.std.specs.Int.{bit_not, w64}
use Rattle.std.proofs.lemmas.Nat.{and_le_r}
use Rattle.scram_types.specs.Bits.{has_bit}
use Rattle.scram_types.specs.Searches.{all_below}
use Rattle.scram_types.specs.declared.rows.Env.{Env}
use Rattle.scram_types.proofs.Naturals.{differ_test, equal_test, same_or_not}
use Rattle.cube_cover.specs.declared.cubes.Cube.{Cube}
use Rattle.cube_cover.specs.Cubes.{HasDigits, allows, digit_in, field_of, holds}
use Rattle.cube_cover.proofs.Bits.{field_bits, field_few, has_and, has_not, has_or}

pub all_same : (f g : ℕ → Bool) (n : ℕ) → ((y : ℕ) → y < n → g y ≡ f y) → all_below g n ≡ all_below f n
all_same f g zero same = refl
all_same f g (suc n) same = rw (all_same f g n (λ y low. same y (omega arith)), same n (omega arith)) refl

pub and_last : (a b c : Bool) → (a && (b && c)) ≡ ((a && b) && c)
and_last true b c = refl
and_last false b c = refl

and_between : (a b c : Bool) → ((a && c) && b) ≡ ((a && b) && c)
and_between true true true = refl
and_between true true false = refl
and_between true false true = refl
and_between true false false = refl
and_between false b c = refl

-- A cube of the bits that two cubes share holds an environment if and only if both cubes hold it.
all_both : (f g h : ℕ → Bool) (n : ℕ) → ((y : ℕ) → h y ≡ (f y && g y)) → all_below h n ≡ (all_below f n && all_below g n)
all_both f g h zero same = refl
all_both f g h (suc n) same = rw (all_both f g h n same, same n) (paired (all_below f n) (all_below g n) (f n) (g n))
  where
    paired : (a b c d : Bool) → ((a && b) && (c && d)) ≡ ((a && c) && (b && d))
    paired true true c d = refl
    paired true false true d = refl
    paired true false false d = refl
    paired false b c d = refl

pub both_holds : (one other : Cube) (v : Env) → holds (record { bits = bit_and one.bits other.bits }) v ≡ (holds one v && holds other v)
unfolding holds
both_holds one other v = all_both (allows one v) (allows other v) (allows (record { bits = bit_and one.bits other.bits }) v) 14 (λ y. has_and one.bits other.bits (4 * y + digit_in v y))

-- If test `g` equals test `f` but also requires the condition `b` at number `x`, all numbers below `n` pass `g` if
-- and only if they pass `f` and `b` holds.
pub narrowed : (f g : ℕ → Bool) (b : Bool) (x n : ℕ) → x < n → ((y : ℕ) → y < n → y ≢ x → g y ≡ f y) → g x ≡ (f x && b) → all_below g n ≡ (all_below f n && b)
narrowed f g b x zero low same here = absurd (omega arith)
narrowed f g b x (suc n) low same here = elim (same_or_not x n) [
  | inl e ↦
      let before = all_same f g n (λ y less. same y (omega arith) (omega arith)) in
      let last : g n ≡ (f n && b) = ap g (sym e) ∙ here ∙ ap (λ (k : ℕ). f k && b) e in
      rw (before, last) (and_last (all_below f n) (f n) b)
  | inr apart ↦
      let before = narrowed f g b x n (omega arith) (λ y less. same y (omega arith)) here in
      rw (before, same n (omega arith) (λ e. apart (sym e))) (and_between (all_below f n) (f n) b)
]

drop_last : (a b c : Bool) → c ≡ true → (a && (b || c)) ≡ a
drop_last true true c e = refl
drop_last true false c e = e
drop_last false b c e = refl

keep_last : (a b c : Bool) → c ≡ false → (a && (b || c)) ≡ (a && b)
keep_last true true c e = refl
keep_last true false c e = e
keep_last false b c e = refl

spare_last : (a b c : Bool) → c ≡ false → (a && not (b && c)) ≡ a
spare_last true true c e = rw e refl
spare_last true false c e = refl
spare_last false b c e = refl

turn_last : (a b c : Bool) → c ≡ true → (a && not (b && c)) ≡ (a && not b)
turn_last true true c e = rw e refl
turn_last true false c e = refl
turn_last false b c e = refl

module _ (cube by : Cube) (x : ℕ) (inside : x < 14) (v : Env) (digits : HasDigits v) where
  abbrev place : ℕ → ℕ
  place y = 4 * y + digit_in v y

  in_field : (y : ℕ) → has_bit (field_of x) (place y) ≡ (y == x)
  in_field y = field_bits x y (digit_in v y) (digits.small y)

  pub out_of_field : (y : ℕ) → y < 14 → has_bit (bit_not w64 (field_of x)) (place y) ≡ not (y == x)
  out_of_field y low = let small = digits.small y in has_not (field_of x) (place y) (field_few x inside) (omega arith) ∙ ap not (in_field y)

  module _ (kept : Cube) (kept_is : kept.bits ≡ bit_and cube.bits (bit_or by.bits (bit_not w64 (field_of x)))) where
    kept_at : (y : ℕ) → allows kept v y ≡ (allows cube v y && (allows by v y || has_bit (bit_not w64 (field_of x)) (place y)))
    kept_at y = ap (λ (n : ℕ). has_bit n (place y)) kept_is ∙ has_and cube.bits (bit_or by.bits (bit_not w64 (field_of x))) (place y)
        ∙ ap (λ (b : Bool). allows cube v y && b) (has_or by.bits (bit_not w64 (field_of x)) (place y))

    pub inside_holds : holds kept v ≡ (holds cube v && allows by v x)
    unfolding holds
    inside_holds = narrowed (allows cube v) (allows kept v) (allows by v x) x 14 inside
        (λ y low apart. kept_at y ∙ drop_last (allows cube v y) (allows by v y) _ (out_of_field y low ∙ ap not (differ_test y x apart)))
        (kept_at x ∙ keep_last (allows cube v x) (allows by v x) _ (out_of_field x inside ∙ ap not (equal_test x x refl)))

  module _ (cut : Cube) (cut_is : cut.bits ≡ bit_and cube.bits (bit_not w64 (bit_and by.bits (field_of x)))) where
    fewer : bit_and by.bits (field_of x) < 2 ^ 64
    fewer = let small = and_le_r by.bits (field_of x) in let room = field_few x inside in omega arith

    cut_at : (y : ℕ) → y < 14 → allows cut v y ≡ (allows cube v y && not (allows by v y && (y == x)))
    cut_at y low =
        let small = digits.small y in
        ap (λ (n : ℕ). has_bit n (place y)) cut_is ∙ has_and cube.bits (bit_not w64 (bit_and by.bits (field_of x))) (place y)
        ∙ ap (λ (b : Bool). allows cube v y && b) (has_not (bit_and by.bits (field_of x)) (place y) fewer (omega arith)
        ∙ ap not (has_and by.bits (field_of x) (place y) ∙ ap (λ (b : Bool). allows by v y && b) (in_field y)))

    pub outside_holds : holds cut v ≡ (holds cube v && not (allows by v x))
    unfolding holds
    outside_holds = narrowed (allows cube v) (allows cut v) (not (allows by v x)) x 14 inside
        (λ y low apart. cut_at y low ∙ spare_last (allows cube v y) (allows by v y) _ (differ_test y x apart))
        (cut_at x inside ∙ turn_last (allows cube v x) (allows by v x) _ (equal_test x x refl))
