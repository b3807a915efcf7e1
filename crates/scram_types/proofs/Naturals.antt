-- Lemmas on comparisons of natural numbers.
use Rattle.std.proofs.Common.{◌≡◌, ℕ, suc, ◌+◌, ◌<◌, ◌≤◌, arith, ◌⊎◌}
pub use Rattle.std.proofs.lemmas.Bool.{cases_lt as low_or_high, cases_eq as same_or_not, ltb-true as below, lt-ltb as below_test, ltb-false as not_below, le-ltb as not_below_test, leb-true as at_most, le-leb as at_most_test, leb-false as above, lt-leb as above_test, eqb-true as equal, eq-eqb as equal_test, eqb-false as differ, ne_eqb as differ_test}

pub below_or_at : (k n : ℕ) → k < suc n → (k < n) ⊎ (k ≡ n)
below_or_at k n h = grind arith

pub at_or_below : (n k : ℕ) → n ≤ suc k → (n ≤ k) ⊎ (n ≡ suc k)
at_or_below n k h = grind arith

pub plus_one : (k : ℕ) → suc k ≡ k + 1
plus_one k = omega arith
