-- The concatenation of numbered texts.
use Rattle.std.specs.Prelude.{ℕ, zero, suc, List, [], ◌++◌}

-- The texts of the numbers below `n`, concatenated in ascending order of the numbers.
abbrev pub texts_below : (ℕ → List ℕ) → ℕ → List ℕ
texts_below text zero = []
texts_below text (suc n) = texts_below text n ++ text n
