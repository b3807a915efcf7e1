-- The concatenation of lists, and lists of at most one element.
use Rattle.std.specs.Prelude.{ℕ, zero, suc, Bool, List, [], ◌∷◌, ◌++◌, if◌then◌else◌}

-- The lists `items k` of all numbers `k` below `n`, concatenated in order.
abbrev pub gathered_below : {A : Type 0} → (ℕ → List A) → ℕ → List A
gathered_below items zero = []
gathered_below items (suc n) = gathered_below items n ++ items n

-- The list of `item` alone if `test` is `true`, or the empty list.
abbrev pub one_if : {A : Type 0} → Bool → A → List A
one_if test item = if test then item ∷ [] else []
