-- Numbers as words of storage by two's complement, and words decoded as numbers.
use Rattle.std.specs.Prelude.{ℕ, ℤ}
use Rattle.std.specs.Int.{cast_signed, cast_unsigned, w64}

-- The word that encodes the number `v`.
abbrev pub encode : ℤ → ℕ
encode v = cast_unsigned w64 v

-- The number that the word `w` encodes.
abbrev pub decode : ℕ → ℤ
decode w = cast_signed w64 w
