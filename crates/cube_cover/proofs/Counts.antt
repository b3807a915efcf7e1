-- Counts of numbers that pass tests, and sums.
use Rattle.std.proofs.Common.{◌≡◌, ◌∙◌, ℕ, zero, suc, ◌+◌, ◌*◌, ◌<◌, ◌≤◌, ◌/◌, ◌%◌, refl, ap, arith, Bool, true, false, ◌&&◌}
use Rattle.std.specs.Prelude.{◌==◌, ◌||◌, if◌then◌else◌}
use Rattle.std.proofs.lemmas.Nat.{div-mul-add, mod-mul-add}
use Rattle.scram_types.proofs.BitSets.{count_more, count_none, count_same}
use Rattle.scram_types.specs.Bits.{count_below}
use Rattle.cube_cover.specs.Cubes.{once}
use Rattle.cube_cover.specs.Sizes.{sum_below}

-- The number of `n` below `a * b` such that `n / b` passes one test and `n % b` passes another is a product. Its
-- factors are the number of quotients below `a` that pass the first test and the number of remainders below `b` that
-- pass the second test. The proof is by induction on the quotients.

row_more : (f g h : ℕ → Bool) (d b k : ℕ) → count_below f (d * b) ≡ count_below g d * count_below h b
    → ((j : ℕ) → j < k → f (d * b + j) ≡ (g d && h j)) → count_below f (d * b + k) ≡ count_below g d * count_below h b + (if g d then count_below h k else 0)
row_more f g h d b zero before at = let e : d * b + 0 ≡ d * b = omega arith in rw (e) (before ∙ none (g d) (count_below g d * count_below h b))
  where
    none : (t : Bool) (n : ℕ) → n ≡ n + (if t then 0 else 0)
    none true n = omega arith
    none false n = omega arith
row_more f g h d b (suc k) before at =
    let e : d * b + suc k ≡ suc (d * b + k) = omega arith in
    let so_far = row_more f g h d b k before (λ j less. at j (omega arith)) in
    rw (e, so_far, at k (omega arith)) (one (g d) (h k) (count_below g d * count_below h b) (count_below h k))
  where
    one : (s t : Bool) (n m : ℕ) → n + (if s then m else 0) + (if (s && t) then 1 else 0) ≡ n + (if s then m + (if t then 1 else 0) else 0)
    one true true n m = omega arith
    one true false n m = omega arith
    one false t n m = omega arith

pub count_product : (g h : ℕ → Bool) (a b : ℕ) → count_below (λ n. g (n / b) && h (n % b)) (a * b) ≡ count_below g a * count_below h b
count_product g h zero b = let e : 0 * b ≡ 0 = omega arith in rw (e) (omega arith)
count_product g h (suc a) b =
    let e : suc a * b ≡ a * b + b = omega arith in
    rw (e) (row_more (λ n. g (n / b) && h (n % b)) g h a b b (count_product g h a b)
    (λ j less. rw (div-mul-add a b j less, mod-mul-add a b j less) refl)
    ∙ times_if (g a) (count_below g a) (count_below h b))
  where
    times_if : (t : Bool) (c m : ℕ) → c * m + (if t then m else 0) ≡ (c + (if t then 1 else 0)) * m
    times_if true c m = omega arith
    times_if false c m = omega arith

pub count_never : (f : ℕ → Bool) (n : ℕ) → ((k : ℕ) → k < n → f k ≡ false) → count_below f n ≡ 0
count_never f zero none = refl
count_never f (suc n) none = rw (count_never f n (λ k less. none k (omega arith)), none n (omega arith)) refl

-- Lemmas on sums.

pub sum_same : (f g : ℕ → ℕ) (n : ℕ) → ((k : ℕ) → k < n → f k ≡ g k) → sum_below f n ≡ sum_below g n
sum_same f g zero same = refl
sum_same f g (suc n) same = rw (sum_same f g n (λ k less. same k (omega arith)), same n (omega arith)) refl

pub sum_both : (f g : ℕ → ℕ) (n : ℕ) → sum_below (λ k. f k + g k) n ≡ sum_below f n + sum_below g n
sum_both f g zero = refl
sum_both f g (suc n) = let before = sum_both f g n in omega arith

pub sum_once : (test : ℕ → Bool) (n : ℕ) → sum_below (λ k. once (test k)) n ≡ count_below test n
sum_once test zero = refl
sum_once test (suc n) = ap (λ (m : ℕ). m + once (test n)) (sum_once test n)

pub sum_zero : (f : ℕ → ℕ) (n : ℕ) → ((k : ℕ) → k < n → f k ≡ 0) → sum_below f n ≡ 0
sum_zero f zero none = refl
sum_zero f (suc n) none = rw (sum_zero f n (λ k less. none k (omega arith)), none n (omega arith)) refl

pub sum_most : (f : ℕ → ℕ) (n : ℕ) → ((k : ℕ) → k < n → f k ≤ 1) → sum_below f n ≤ n
sum_most f zero few = omega arith
sum_most f (suc n) few = let before = sum_most f n (λ k less. few k (omega arith)) in let last = few n (omega arith) in omega arith

-- If `part` assigns each number below `n` a part below `m`, the counts of the parts add up to the count of all
-- numbers below `n` that pass the test.
pub sum_parted : (test : ℕ → Bool) (part : ℕ → ℕ) (n m : ℕ) → ((k : ℕ) → k < n → part k < m)
    → sum_below (λ j. count_below (λ k. test k && (part k == j)) n) m ≡ count_below test n
sum_parted test part zero m inside = sum_zero (λ j. 0) m (λ j less. refl)
sum_parted test part (suc n) m inside =
    sum_both (λ j. count_below (λ k. test k && (part k == j)) n) (λ j. once (test n && (part n == j))) m
    ∙ ap (λ (a : ℕ). a + sum_below (λ j. once (test n && (part n == j))) m) (sum_parted test part n m (λ k less. inside k (omega arith)))
    ∙ ap (λ (b : ℕ). count_below test n + b) (sum_once (λ j. test n && (part n == j)) m ∙ count_one (test n) (part n) m (inside n (omega arith)))
  where
    same_part : (t b : Bool) → (t && b) ≡ ((b && t) || false)
    same_part true true = refl
    same_part true false = refl
    same_part false true = refl
    same_part false false = refl

    count_one : (t : Bool) (p m : ℕ) → p < m → count_below (λ j. t && (p == j)) m ≡ once t
    count_one t p m less =
        count_same (λ j. t && (p == j)) (λ j. (p == j && t) || false) m (λ j small. same_part t (p == j))
        ∙ count_more (λ j. false) p m t less (λ e. refl) ∙ ap (λ (n : ℕ). n + once t) (count_none m) ∙ (omega arith)

-- The count of the numbers up to and including `n` is one more than the count below `n` if `n` passes the test, and
-- the same otherwise.
pub count_pass : (test : ℕ → Bool) (n m : ℕ) → m ≡ count_below test n → test n ≡ true → m + 1 ≡ count_below test (n + 1)
count_pass test n m is passes = let next : n + 1 ≡ suc n = omega arith in rw (next, is, passes) refl

pub count_skip : (test : ℕ → Bool) (n m : ℕ) → m ≡ count_below test n → test n ≡ false → m ≡ count_below test (n + 1)
count_skip test n m is fails = let next : n + 1 ≡ suc n = omega arith in rw (next, fails) (omega (arith, is))
