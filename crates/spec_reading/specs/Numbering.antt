-- Items that are numbered by their index in a list and found by their names.
use Rattle.std.specs.Prelude.{ℕ, List, Option, position}
use Rattle.std.specs.Str.{bytes_eq}

-- The index of the first item with this name, or `None` if no item has it.
abbrev pub index_named : {A : Type 0} → (A → List ℕ) → List A → List ℕ → Option ℕ
index_named {A} name xs text = position (λ (x : A). bytes_eq text (name x)) xs

-- The name of an item that is a name: the item itself.
abbrev pub itself : List ℕ → List ℕ
itself name = name
