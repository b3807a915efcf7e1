-- Searches through the numbers below `n`.
use Rattle.std.specs.Prelude.{ℕ, zero, suc, max, Bool, true, false, ◌&&◌, ◌||◌, List, [], ◌∷◌, ◌++◌, Option, Some, None, if◌then◌else◌}
use Rattle.std.specs.Option.{option_or}

-- Each number below `n` passes a test.
abbrev pub all_below : (ℕ → Bool) → ℕ → Bool
all_below test zero = true
all_below test (suc n) = all_below test n && test n

-- Some number below `n` passes a test.
abbrev pub any_below : (ℕ → Bool) → ℕ → Bool
any_below test zero = false
any_below test (suc n) = any_below test n || test n

-- The value of `answer` at the least number below `n` at which it is not `None`, or `None` if there is no such
-- number.
abbrev pub first_below : {A : Type 0} → (ℕ → Option A) → ℕ → Option A
first_below answer zero = None
first_below answer (suc n) = option_or (first_below answer n) (answer n)

-- The first of the `n` numbers from `i` on that passes a test, or `None` if no number passes it.
abbrev pub least_from : (ℕ → Bool) → ℕ → ℕ → Option ℕ
least_from test i zero = None
least_from test i (suc n) = if test i then Some i else least_from test (suc i) n

-- The maximum of a function over the numbers below `n`, or 0 if `n` is 0.
abbrev pub greatest_below : (ℕ → ℕ) → ℕ → ℕ
greatest_below value zero = 0
greatest_below value (suc n) = max (value n) (greatest_below value n)

-- The list of the values of a function at the numbers below `n`, in order.
abbrev pub listed_below : {A : Type 0} → (ℕ → A) → ℕ → List A
listed_below value zero = []
listed_below value (suc n) = listed_below value n ++ value n ∷ []
