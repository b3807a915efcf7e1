-- The values that canonical texts encode. A canonical text is compact JSON in which the members of an object are sorted
-- by their bytes.
use Rattle.std.specs.Prelude.{ℕ, ℤ, List, map}
use Rattle.serde_json.specs.Data.{Data, number, array, unsigned}
use Rattle.serde_json.specs.Find.{of_integer}
use Rattle.serde_json.specs.View.{items_of}

-- The JSON value of the non-negative whole number `n`.
abbrev pub count_data : ℕ → Data
count_data n = number (unsigned n)

-- The JSON value of the whole number `n`, which may be negative.
abbrev pub integer_data : ℤ → Data
integer_data n = number (of_integer n)

-- The JSON value of a list, given the function `f` from an item to its value.
abbrev pub list_data : {A : Type 0} → (A → Data) → List A → Data
list_data f xs = array (items_of (map f xs))
