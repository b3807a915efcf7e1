-- Names: 1 to 16 bytes, a lower-case letter followed by lower-case letters, digits or `_`.
use Rattle.std.specs.Prelude.{ℕ, List, [], ◌∷◌, length, Bool, false, ◌&&◌, ◌||◌, ◌==◌, nat_le, Option, Some, None, if◌then◌else◌}
use Rattle.std.specs.List.{list_all}
use Rattle.std.specs.Char.{is_ascii_lowercase, is_ascii_digit}

-- The byte is a lower-case letter, a digit or `_`, whose code is 95.
abbrev pub is_letter_of_name : ℕ → Bool
is_letter_of_name b = is_ascii_lowercase b || is_ascii_digit b || b == 95

-- The text is a valid name.
abbrev pub is_spelled_name : List ℕ → Bool
is_spelled_name [] = false
is_spelled_name (first ∷ rest) = is_ascii_lowercase first && list_all is_letter_of_name rest && nat_le (length (first ∷ rest)) 16

-- The name that the text spells, or `None` if the text is not a valid name.
abbrev pub spelled_name : List ℕ → Option (List ℕ)
spelled_name text = if is_spelled_name text then Some text else None
