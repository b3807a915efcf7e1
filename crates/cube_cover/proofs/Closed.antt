-- Lemmas on cubes with all digits open, and on cubes with no digit open at some place.
use Rattle.std.proofs.Common.{◌≡◌, ◌∙◌, ℕ, ◌+◌, ◌*◌, ◌-◌, ◌^◌, ◌<◌, ◌≤◌, ◌%◌, refl, ap, sym, arith, Bool, true, false, not, ◌&&◌, ◌||◌}
use mathlib.Core.Logic.{inl, inr}
use Rattle.std.specs.Prelude.{◌==◌, bit_and, if◌then◌else◌}
use Rattle.std.specs.Int.{bit_at}
use Rattle.std.proofs.lemmas.Nat.{and_le_r, one_shl}
use Rattle.scram_types.specs.declared.rows.Env.{Env}
use Rattle.scram_types.proofs.Booleans.{and_true, by_bool, same_test, true_false}
use Rattle.scram_types.proofs.BitSets.{bit_cases, bits_are, no_high_bit}
use Rattle.scram_types.specs.Searches.{all_below}
use Rattle.choice_table.specs.Choices.{all_up}
use Rattle.choice_table.specs.Demands.{all_down}
use Rattle.choice_table.specs.Environments.{factor_in, is_up_in}
use Rattle.choice_table.proofs.Members.{sets_by_members}
use Rattle.scram_types.proofs.Naturals.{below_test, differ_test, equal, equal_test, low_or_high, not_below_test}
use Rattle.scram_types.proofs.Searches.{all_each, all_false, each_all}
use Rattle.scram_types.specs.Bits.{has_bit}
use Rattle.cube_cover.specs.declared.cubes.Cube.{Cube}
use Rattle.cube_cover.specs.Cubes.{HasDigits, allows, digit_in, field_of, holds}
use Rattle.cube_cover.proofs.Bits.{digit_bits, field_bits, has_and, has_each, has_none}
use Rattle.cube_cover.proofs.Holds.{all_same}

pub holds_all : (v : Env) → HasDigits v → holds (record { bits = 18446744073709551615 }) v ≡ true
unfolding holds
holds_all v digits = each_all (allows (record { bits = 18446744073709551615 }) v) 14 (λ x low. let small = digits.small x in has_each (4 * x + digit_in v x) (omega arith))

pub holds_none : (v : Env) → holds (record { bits = 0 }) v ≡ false
unfolding holds
holds_none v = all_false (allows (record { bits = 0 }) v) 14 0 (omega arith) (has_none (4 * 0 + digit_in v 0))

-- If a cube holds an environment, some digit is open at each place.
pub open_at : (cube : Cube) (x : ℕ) (v : Env) → x < 14 → HasDigits v → holds cube v ≡ true → bit_and cube.bits (field_of x) ≡ 0 → true ≡ false
unfolding holds
open_at cube x v low digits held none =
    let here = all_each (allows cube v) 14 x held low in
    let both : has_bit (bit_and cube.bits (field_of x)) (4 * x + digit_in v x) ≡ true =
    has_and cube.bits (field_of x) (4 * x + digit_in v x) ∙ and_true (allows cube v x) _ here (field_bits x x (digit_in v x) (digits.small x) ∙ equal_test x x refl) in
    sym both ∙ ap (λ (n : ℕ). has_bit n (4 * x + digit_in v x)) none ∙ has_none (4 * x + digit_in v x)

-- Lemmas on the digits of an environment.

pub digit_factor : (v : Env) (x : ℕ) → x < 6 → digit_in v x ≡ factor_in v x
unfolding digit_in
digit_factor v x low = rw (below_test x 6 low) refl

up_test : (b : Bool) → ((if b then 0 else 1) == 0) ≡ b
up_test true = refl
up_test false = refl

pub digit_processor : (v : Env) (p : ℕ) → digit_in v (6 + p) ≡ (if is_up_in v p then 0 else 1)
unfolding digit_in
digit_processor v p = let same : 6 + p - 6 ≡ p = omega arith in rw (not_below_test (6 + p) 6 (omega arith), same) refl

pub digit_up : (v : Env) (p : ℕ) → (digit_in v (6 + p) == 0) ≡ is_up_in v p
digit_up v p = ap (λ (n : ℕ). n == 0) (digit_processor v p) ∙ up_test (is_up_in v p)

down_test : (b : Bool) → ((if b then 0 else 1) == 1) ≡ not b
down_test true = refl
down_test false = refl

digit_down : (v : Env) (p : ℕ) → (digit_in v (6 + p) == 1) ≡ not (is_up_in v p)
digit_down v p = ap (λ (n : ℕ). n == 1) (digit_processor v p) ∙ down_test (is_up_in v p)

-- A cube with one open digit at place `x` allows an environment at `x` if and only if the environment has this digit
-- there.

pub one_digit : (v : Env) (x d : ℕ) → 4 * x + d < 64 → allows (record { bits = (1 * 2 ^ (4 * x + d)) % 2 ^ 64 }) v x ≡ (digit_in v x == d)
one_digit v x d low = ap (λ (n : ℕ). has_bit n (4 * x + digit_in v x)) (one_shl (4 * x + d) 64 low) ∙ digit_bits x d (digit_in v x)

-- Lemmas on the sets of processors that have to be up or down.

up_by_members : (set : ℕ) (v : Env) → set < 256 → all_below (λ p. not (has_bit set p) || is_up_in v p) 8 ≡ all_up set v
up_by_members set v few = same_test _ _
    (λ each. (sets_by_members set v).1 (λ p bit. elim (low_or_high p 8) [
      | inl low ↦ member (has_bit set p) (is_up_in v p) (all_each (λ q. not (has_bit set q) || is_up_in v q) 8 p each low) bit
      | inr high ↦ true_false (has_bit set p) bit (no_high_bit set p few high)
    ]))
    (λ all. each_all (λ q. not (has_bit set q) || is_up_in v q) 8 (λ p low. known (has_bit set p) (is_up_in v p) ((sets_by_members set v).0 all p)))
  where
    member : (a b : Bool) → (not a || b) ≡ true → a ≡ true → b ≡ true
    member true b e h = e
    member false b e h = absurd (cc)

    known : (a b : Bool) → (a ≡ true → b ≡ true) → (not a || b) ≡ true
    known true b f = f refl
    known false b f = refl

pub up_by_digits : (set : ℕ) (v : Env) → set < 256 → all_below (λ p. not (has_bit set p) || (digit_in v (6 + p) == 0)) 8 ≡ all_up set v
up_by_digits set v few =
    all_same (λ p. not (has_bit set p) || is_up_in v p) (λ p. not (has_bit set p) || (digit_in v (6 + p) == 0)) 8
    (λ p low. ap (λ (b : Bool). not (has_bit set p) || b) (digit_up v p))
    ∙ up_by_members set v few

apart : (a b : Bool) → (not a || not b) ≡ true → (a && b) ≡ false
apart true true h = absurd (cc)
apart true false h = refl
apart false b h = refl

apart_is : (a b : Bool) → (a && b) ≡ false → (not a || not b) ≡ true
apart_is true true h = absurd (cc)
apart_is true false h = refl
apart_is false b h = refl

no_one : (set p : ℕ) → has_bit set p ≡ false → bit_at set p ≡ 0
no_one set p e = elim (bit_cases set p) [ inl none ↦ none | inr one ↦ true_false (has_bit set p) (equal_test (bit_at set p) 1 one) e ]

down_by_members : (set : ℕ) (v : Env) → v.up < 256 → all_below (λ p. not (has_bit set p) || not (is_up_in v p)) 8 ≡ all_down set v
down_by_members set v few = same_test _ _
    (λ each. equal_test (bit_and set v.up) 0 (bits_are (bit_and set v.up) (λ p. false) 8 (let less = and_le_r set v.up in omega arith)
    (λ p low. no_one (bit_and set v.up) p (has_and set v.up p ∙ apart (has_bit set p) (is_up_in v p) (all_each (λ q. not (has_bit set q) || not (is_up_in v q)) 8 p each low)))))
    (λ none. each_all (λ q. not (has_bit set q) || not (is_up_in v q)) 8
    (λ p low. apart_is (has_bit set p) (is_up_in v p) (sym (has_and set v.up p) ∙ ap (λ (n : ℕ). has_bit n p) (equal (bit_and set v.up) 0 none) ∙ has_none p)))

pub down_by_digits : (set : ℕ) (v : Env) → v.up < 256 → all_below (λ p. not (has_bit set p) || (digit_in v (6 + p) == 1)) 8 ≡ all_down set v
down_by_digits set v few =
    all_same (λ p. not (has_bit set p) || not (is_up_in v p)) (λ p. not (has_bit set p) || (digit_in v (6 + p) == 1)) 8
    (λ p low. ap (λ (b : Bool). not (has_bit set p) || b) (digit_down v p))
    ∙ down_by_members set v few

pub is_open_where_held : (cube : Cube) (x field : ℕ) (v : Env) → x < 14 → HasDigits v → holds cube v ≡ true → field ≡ field_of x → not (bit_and cube.bits field == 0) ≡ true
is_open_where_held cube x field v low digits held is = by_bool (bit_and cube.bits field == 0)
    (λ none. let clash = open_at cube x v low digits held (ap (bit_and cube.bits) (sym is) ∙ equal (bit_and cube.bits field) 0 none) in absurd (cc))
    (λ some. ap not some)

none_of : (a b : Bool) → b ≡ false → false ≡ (a && b)
none_of true b e = sym e
none_of false b e = refl

pub none_holds : (cube : Cube) (v : Env) (test : Bool) → test ≡ false → holds (record { bits = 0 }) v ≡ (holds cube v && test)
none_holds cube v test e = holds_none v ∙ none_of (holds cube v) test e

pub no_digit : (cube : Cube) (v : Env) (x d : ℕ) → HasDigits v → 4 ≤ d → holds (record { bits = 0 }) v ≡ (holds cube v && (digit_in v x == d))
no_digit cube v x d digits high = let small = digits.small x in none_holds cube v _ (differ_test (digit_in v x) d (omega arith))
