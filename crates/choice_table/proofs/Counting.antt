-- Counts of the numbers that pass a test.
use Rattle.std.proofs.Common.{◌≡◌, ℕ, zero, suc, ◌+◌, ◌*◌, ◌<◌, ◌/◌, refl, arith, ap, ◌∙◌, Bool, true, false}
use Rattle.std.specs.Prelude.{if◌then◌else◌}
use Rattle.std.proofs.lemmas.Nat.{div-mul-add}
use Rattle.scram_types.proofs.BitSets.{count_same}
use Rattle.scram_types.specs.Bits.{count_below}

count_split : (test : ℕ → Bool) (a b : ℕ) → count_below test (a + b) ≡ count_below test a + count_below (λ k. test (a + k)) b
count_split test a zero = let e : a + 0 ≡ a = omega arith in rw e (omega arith)
count_split test a (suc b) =
    let e : a + suc b ≡ suc (a + b) = omega arith in
    let before = count_split test a b in
    rw (e) (omega arith)

all_or_none : (b : Bool) (n : ℕ) → count_below (λ k. b) n ≡ (if b then n else 0)
all_or_none true zero = refl
all_or_none true (suc n) = let before = all_or_none true n in omega arith
all_or_none false zero = refl
all_or_none false (suc n) = let before = all_or_none false n in omega arith

times_if : (b : Bool) (c m : ℕ) → c * m + (if b then m else 0) ≡ (c + (if b then 1 else 0)) * m
times_if true c m = omega arith
times_if false c m = omega arith

-- The number of `n` below `d * m` whose quotient `n / m` passes a test is `m` times the number of quotients below `d`
-- that pass the test.
pub count_blocks : (test : ℕ → Bool) (d m : ℕ) → 0 < m → count_below (λ n. test (n / m)) (d * m) ≡ count_below test d * m
count_blocks test zero m some = let e : 0 * m ≡ 0 = omega arith in rw (e) (omega arith)
count_blocks test (suc d) m some =
    let e : suc d * m ≡ d * m + m = omega arith in
    let block : count_below (λ k. test ((d * m + k) / m)) m ≡ (if test d then m else 0) =
    count_same (λ k. test ((d * m + k) / m)) (λ k. test d) m (λ k less. ap test (div-mul-add d m k less)) ∙ all_or_none (test d) m in
    rw (e, count_split (λ n. test (n / m)) (d * m) m, count_blocks test d m some, block) (times_if (test d) (count_below test d) m)
