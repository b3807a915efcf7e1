-- Lemmas on sets of numbers that are kept as bits.
use Rattle.std.proofs.Common.{◌≡◌, ◌∙◌, ℕ, zero, suc, ◌+◌, ◌-◌, ◌*◌, ◌^◌, ◌<◌, ◌≤◌, ◌%◌, ◌/◌, refl, ap, sym, arith, Bool, true, false, not, ◌&&◌, ◌||◌, ◌⊎◌}
use mathlib.Core.Logic.{inl, inr}
use Rattle.std.specs.Prelude.{◌==◌, max, min, bit_and, bit_or, if◌then◌else◌}
use Rattle.std.specs.Int.{bit_at, bit_not, w8}
use Rattle.std.proofs.Math.Nat.{div-eq_of_lt, pow-le-pow_right, pow-suc}
use Rattle.std.proofs.lemmas.Nat.{and_le_l, mod-pow-add, mod_below, one_shl, or_comm, or_lt, or_shifted}
use Rattle.std.proofs.lemmas.Nat.Bits.{bit_at-pow_other, bit_at_and, bit_at_cat_high, bit_at_cat_low, bit_at_not, bit_at_or, same_from_bits_below}
use Rattle.scram_types.specs.Bits.{bits_below, count_below, has_bit}
use Rattle.scram_types.proofs.Naturals.{below_or_at, differ_test, equal_test, same_or_not}

pub twice : (n : ℕ) → 2 ^ suc n ≡ 2 ^ n + 2 ^ n
twice n = pow-suc 2 n ∙ omega arith

-- The bit for the result of a test: 1 for `true`, and 0 for `false`.
abbrev pub bit_of : Bool → ℕ
bit_of b = if b then 1 else 0

pub bit_cases : (set p : ℕ) → (bit_at set p ≡ 0) ⊎ (bit_at set p ≡ 1)
bit_cases set p = let low : bit_at set p < 2 = mod_below (set / 2 ^ p) 2 (omega arith) in grind arith

-- If a set is below `2 ^ n`, its bits from `n` on are 0.
pub no_bit : (set n p : ℕ) → set < 2 ^ n → n ≤ p → bit_at set p ≡ 0
no_bit set n p few past =
    let wide : 2 ^ n ≤ 2 ^ p = pow-le-pow_right (omega arith) past in
    let small : set < 2 ^ p = omega arith in
    rw (div-eq_of_lt small) refl

pub no_bit_past : (set n p : ℕ) → set < 2 ^ n → n ≤ p → has_bit set p ≡ false
no_bit_past set n p few past = rw (no_bit set n p few past) refl

pub no_high_bit : (set p : ℕ) → set < 256 → 8 ≤ p → has_bit set p ≡ false
no_high_bit set p few high = rw (no_bit set 8 p few high) refl

-- The lower `n + 1` bits of a number consist of bit `n` and the lower `n` bits.
pub low_bits : (set n : ℕ) → set % 2 ^ suc n ≡ bit_at set n * 2 ^ n + set % 2 ^ n
low_bits set n = let e : suc n ≡ 1 + n = omega arith in rw e (mod-pow-add set 1 n)

place : (b : Bool) (n low : ℕ) → low + (if b then 2 ^ n else 0) ≡ bit_of b * 2 ^ n + low
place true n low = omega arith
place false n low = omega arith

grown : (b : Bool) (n low : ℕ) → low < 2 ^ n → low + (if b then 2 ^ n else 0) < 2 ^ suc n
grown true n low h = rw (twice n) (omega arith)
grown false n low h = rw (twice n) (omega arith)

pub bits_lt : (test : ℕ → Bool) (n : ℕ) → bits_below test n < 2 ^ n
bits_lt test zero = omega arith
bits_lt test (suc n) = grown (test n) n (bits_below test n) (bits_lt test n)

lowest : (b : Bool) → bit_at (bit_of b) 0 ≡ bit_of b
lowest true = refl
lowest false = refl

-- If `i` is below `n`, bit `i` of `bits_below test n` is the result of the test for `i`.
pub bit_is : (test : ℕ → Bool) (n i : ℕ) → i < n → bit_at (bits_below test n) i ≡ bit_of (test i)
bit_is test zero i h = absurd (omega arith)
bit_is test (suc n) i h = elim (below_or_at i n h) [
  | inl low ↦ rw (place (test n) n (bits_below test n), bit_at_cat_low (bit_of (test n)) n (bits_below test n) i low) (bit_is test n i low)
  | inr last ↦
      let none : n - n ≡ 0 = omega arith in
      rw (last, place (test n) n (bits_below test n), bit_at_cat_high (bit_of (test n)) n (bits_below test n) n (bits_lt test n) (omega arith), none) (lowest (test n))
]

set_bit : (b : Bool) → (bit_of b == 1) ≡ b
set_bit true = refl
set_bit false = refl

pub has_bits : (test : ℕ → Bool) (n i : ℕ) → i < n → has_bit (bits_below test n) i ≡ test i
has_bits test n i low = rw (bit_is test n i low) (set_bit (test i))

-- If a set is below `2 ^ n` and its first `n` bits are the results of a test, the set equals `bits_below`.
pub bits_are : (set : ℕ) (test : ℕ → Bool) (n : ℕ) → set < 2 ^ n → ((i : ℕ) → i < n → bit_at set i ≡ bit_of (test i)) → set ≡ bits_below test n
bits_are set test n few is = same_from_bits_below n set (bits_below test n) few (bits_lt test n) (λ i low. is i low ∙ sym (bit_is test n i low))

pub same_bits : (s t : ℕ → Bool) (n : ℕ) → ((i : ℕ) → i < n → s i ≡ t i) → bits_below s n ≡ bits_below t n
same_bits s t n is = bits_are (bits_below s n) t n (bits_lt s n) (λ i low. bit_is s n i low ∙ ap bit_of (is i low))

either : (a b : Bool) → max (bit_of a) (bit_of b) ≡ bit_of (a || b)
either true true = refl
either true false = refl
either false true = refl
either false false = refl

but : (a b : Bool) → min (bit_of a) (1 - bit_of b) ≡ bit_of (a && not b)
but true true = refl
but true false = refl
but false true = refl
but false false = refl

pub bits_or : (s t : ℕ → Bool) (n : ℕ) → bit_or (bits_below s n) (bits_below t n) ≡ bits_below (λ i. s i || t i) n
bits_or s t n = bits_are _ (λ i. s i || t i) n (or_lt n (bits_below s n) (bits_below t n) (bits_lt s n) (bits_lt t n))
    (λ i low. bit_at_or (bits_below s n) (bits_below t n) i ∙ rw (bit_is s n i low, bit_is t n i low) (either (s i) (t i)))

within : (test : ℕ → Bool) (n : ℕ) → n ≤ 8 → bits_below test n < 2 ^ 8
within test n few = let more : 2 ^ n ≤ 2 ^ 8 = pow-le-pow_right (omega arith) few in let low = bits_lt test n in omega arith

pub bits_but : (s t : ℕ → Bool) (n : ℕ) → n ≤ 8 → bit_and (bits_below s n) (bit_not w8 (bits_below t n)) ≡ bits_below (λ i. s i && not (t i)) n
bits_but s t n few =
    let low = bits_lt s n in
    let less = and_le_l (bits_below s n) (bit_not w8 (bits_below t n)) in
    bits_are _ (λ i. s i && not (t i)) n (omega arith)
    (λ i under. bit_at_and (bits_below s n) (bit_not w8 (bits_below t n)) i
    ∙ rw (bit_at_not w8 (bits_below t n) i (within t n few) (omega arith), bit_is s n i under, bit_is t n i under) (but (s i) (t i)))

-- If a set contains only numbers below `p`, adding `p` to it adds `2 ^ p` to its value.
pub bit_more : (set p : ℕ) → p < 8 → set < 2 ^ p → bit_or set ((1 * 2 ^ p) % 256) ≡ set + 2 ^ p
bit_more set p low few =
    let shifted : (1 * 2 ^ p) % 256 ≡ 2 ^ p = one_shl p 8 low in
    let single : 2 ^ p ≡ 1 * 2 ^ p = omega arith in
    rw (shifted, or_comm set (2 ^ p)) (ap (λ x. bit_or x set) single ∙ or_shifted 1 p set few ∙ omega arith)

-- The set of all numbers below `n` is `2 ^ n - 1`.

all_ones : (n : ℕ) → bits_below (λ i. true) n + 1 ≡ 2 ^ n
all_ones zero = omega arith
all_ones (suc n) = let before = all_ones n in rw (twice n) (omega arith)

pub bits_all : (n : ℕ) → 2 ^ n - 1 ≡ bits_below (λ i. true) n
bits_all n = let all = all_ones n in omega arith

-- If the number `k` is added to a set, each member of the new set is `k` or a member of the original set.
pub has_more : (set k n : ℕ) → has_bit (bit_or set (2 ^ k)) n ≡ true → (has_bit set n ≡ true) ⊎ (n ≡ k)
has_more set k n is = elim (same_or_not n k) [
  | inl same ↦ inr same
  | inr other ↦ inl (
      let beside : bit_at (bit_or set (2 ^ k)) n ≡ bit_at set n = bit_at_or set (2 ^ k) n ∙ rw (bit_at-pow_other k n other) (omega arith) in
      sym (ap (λ (b : ℕ). b == 1) beside) ∙ is)
]

-- Lemmas on the count of the numbers that pass a test.

bit_most : (b : Bool) → bit_of b ≤ 1
bit_most true = omega arith
bit_most false = omega arith

pub count_most : (test : ℕ → Bool) (n : ℕ) → count_below test n ≤ n
count_most test zero = omega arith
count_most test (suc n) = let before = count_most test n in let here = bit_most (test n) in omega arith

pub count_same : (f g : ℕ → Bool) (n : ℕ) → ((k : ℕ) → k < n → f k ≡ g k) → count_below f n ≡ count_below g n
count_same f g zero same = refl
count_same f g (suc n) same = rw (same n (omega arith), count_same f g n (λ k less. same k (omega arith))) refl

rises_by : (s t : ℕ → Bool) (n : ℕ) (a b : Bool) → s n ≡ a → t n ≡ b → count_below s n + bit_of a < count_below t n + bit_of b
    → (count_below s n < count_below t n → (k : ℕ) × (k < n) × (s k ≡ false) × (t k ≡ true)) → (k : ℕ) × (k < suc n) × (s k ≡ false) × (t k ≡ true)
rises_by s t n false true e f more before = (n, omega arith, e, f)
rises_by s t n false false e f more before = let found = before (omega arith) in (found.0, omega arith, found.2, found.3)
rises_by s t n true b e f more before = let most = bit_most b in let found = before (omega arith) in (found.0, omega arith, found.2, found.3)

-- If more numbers pass the second test than the first, some number passes the second test but not the first.
pub count_rises : (s t : ℕ → Bool) (n : ℕ) → count_below s n < count_below t n → (k : ℕ) × (k < n) × (s k ≡ false) × (t k ≡ true)
count_rises s t zero h = absurd (omega arith)
count_rises s t (suc n) h = rises_by s t n (s n) (t n) refl refl h (count_rises s t n)

last_more : (b t : Bool) (c : ℕ) → (b ≡ true → t ≡ false) → c + bit_of (b || t) ≡ (c + bit_of t) + bit_of b
last_more true t c f = rw (f refl) (omega arith)
last_more false t c f = omega arith

-- A test that `q` fails is extended so that `q` passes. Then the count of the numbers that pass rises by one. If `b`
-- is `false`, the test is not extended and the count stays the same.
pub count_more : (s : ℕ → Bool) (q n : ℕ) (b : Bool) → q < n → (b ≡ true → s q ≡ false) → count_below (λ p. (q == p && b) || s p) n ≡ count_below s n + bit_of b
count_more s q zero b less apart = absurd (omega arith)
count_more s q (suc n) b less apart = elim (below_or_at q n less) [
  | inl earlier ↦ rw (differ_test q n (λ e. omega arith), count_more s q n b earlier apart) (omega arith)
  | inr last ↦ (
      let same : count_below (λ p. (q == p && b) || s p) n ≡ count_below s n =
      count_same (λ p. (q == p && b) || s p) s n (λ p low. rw (differ_test q p (λ e. omega arith)) refl) in
      rw (equal_test q n last, same) (last_more b (s n) (count_below s n) (λ t. sym (ap s last) ∙ apart t)))
]

pub count_none : (n : ℕ) → count_below (λ p. false) n ≡ 0
count_none zero = refl
count_none (suc n) = rw (count_none n) refl
