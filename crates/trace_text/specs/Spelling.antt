-- The spelling of numbers. A text spells a number only if it is exactly the printed text of the number. Therefore
-- leading zeros, `-0` and `+` are refused.
use Rattle.std.specs.Prelude.{ℕ, ℤ, suc, zero, ◌+◌, ◌^◌, ◌&&◌, List, [], ◌∷◌, Option, Some, None, decimal, nat_lt, option_map, option_and_then, bytes_eq, if◌then◌else◌}
use Rattle.std.specs.Fmt.{signed_decimal}
use Rattle.std.specs.Str.Parse.{digits_value, signed_digits_value}
use lib.Signed.{mag}
use Rattle.trace_text.specs.Pieces.{word_at}

-- The number `n`, or `None` if `n` is not below the limit or the text is not its printed text.
abbrev pub spelled_below : ℕ → ℕ → List ℕ → Option ℕ
spelled_below limit n text = if nat_lt n limit && bytes_eq (decimal n) text then Some n else None

-- The number below `limit` that a text spells, or `None` if it spells no such number.
unfoldable pub spelled_number : ℕ → List ℕ → Option ℕ
spelled_number limit text = spelled_below limit (digits_value 10 text) text

-- The number `z`, or `None` if `z` is not a signed number of 64 bits or the text is not its printed text.
abbrev pub spelled_signed : ℤ → List ℕ → Option ℤ
spelled_signed z text = if nat_lt (mag z) (2 ^ 63) && bytes_eq (signed_decimal z) text then Some z else None

-- The signed number of 64 bits that a text spells, or `None` if it spells no such number.
unfoldable pub signed_of : List ℕ → Option ℤ
signed_of text = spelled_signed (signed_digits_value 10 text) text

-- The signed numbers that the `n` words from index `k` on spell, or `None` if a word spells no number.
abbrev pub signed_from : ℕ → ℕ → List (List ℕ) → Option (List ℤ)
signed_from zero k words = Some []
signed_from (suc n) k words =
    option_and_then (λ (z : ℤ). option_map (λ (zs : List ℤ). z ∷ zs) (signed_from n (k + 1) words)) (signed_of (word_at words k))
