-- The spelling of names.
use Rattle.std.specs.Prelude.{ℕ, Bool, false, ◌&&◌, ◌||◌, ◌==◌, nat_le, List, [], ◌∷◌, length, Option, Some, None, if◌then◌else◌}
use Rattle.std.specs.List.{list_all}
use Rattle.std.specs.Char.{is_ascii_lowercase, is_ascii_digit}

-- The byte is a lower-case letter, a digit or `_`.
abbrev pub is_name_byte : ℕ → Bool
is_name_byte b = is_ascii_lowercase b || is_ascii_digit b || b == 95

-- Whether the text is a name: a lower-case letter, followed by at most 15 bytes that each satisfy `is_name_byte`.
abbrev pub is_name : List ℕ → Bool
is_name [] = false
is_name (first ∷ rest) = is_ascii_lowercase first && list_all is_name_byte rest && nat_le (length (first ∷ rest)) 16

-- The name that a text spells, or `None` if the text is not a name.
abbrev pub name_of : List ℕ → Option (List ℕ)
name_of text = if is_name text then Some text else None
