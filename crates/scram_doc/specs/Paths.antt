-- Paths in a document. The path of the whole document has no bytes and is shown as `.`.
use Rattle.std.specs.Prelude.{ℕ, List, [], ◌∷◌, ◌++◌, decimal}

-- The path of member `name` of the object at path `at`. The code of `.` is 46.
abbrev pub member_path : List ℕ → List ℕ → List ℕ
member_path at name = at ++ 46 ∷ name

-- The path of the element with index `index` of the list at path `at`.
abbrev pub item_path : List ℕ → ℕ → List ℕ
item_path at index = at ++ 46 ∷ decimal index

-- The form in which a path is shown: `.` for the whole document, and the path itself otherwise.
abbrev pub shown : List ℕ → List ℕ
shown [] = 46 ∷ []
shown (b ∷ bs) = b ∷ bs
