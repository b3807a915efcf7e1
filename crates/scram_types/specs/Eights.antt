-- Lists of eight elements.
use Rattle.std.specs.Prelude.{ℕ, List, [], ◌∷◌}

-- The list of the values of a function at the numbers 0 to 7.
abbrev pub eight : {A : Type 0} → (ℕ → A) → List A
eight value = value 0 ∷ value 1 ∷ value 2 ∷ value 3 ∷ value 4 ∷ value 5 ∷ value 6 ∷ value 7 ∷ []
