-- Clamped numbers, and remainders around the circle, are within their ranges.
use Rattle.std.proofs.Common.{◌≡◌, ◌≤ℤ◌, ◌%◌, refl, ℤ, pos, negsuc, ◌<◌, Bool, true, false, if◌then◌else◌, int_lt, arith}
use Rattle.std.proofs.lemmas.Int.{ints}
use native.Mathlib.Nat.{mod-lt}
use Rattle.scram_types.specs.declared.ranges.Range.{Range}
use Rattle.scram_types.specs.Numbers.{minus, clamp, modulo}
use Rattle.scram_types.specs.Ranges.{clamp_in, limit}

-- The number `x` is within the range `r`.
pub record IsInRange (r : Range) (x : ℤ) : Type 0 where
  pub least : minus r.below ≤ℤ x
  pub greatest : x ≤ℤ pos r.above

pub in_clamp : (r : Range) (x : ℤ) → IsInRange r (clamp_in r x)
unfolding clamp_in clamp
in_clamp r x = by (int_lt x (minus r.below)) (int_lt (pos r.above) x) refl refl
  where
    by : (s t : Bool) → int_lt x (minus r.below) ≡ s → int_lt (pos r.above) x ≡ t → IsInRange r (if s then minus r.below else (if t then pos r.above else x))
    by true t e f = record { least = omega (arith, ints); greatest = omega (arith, ints) }
    by false true e f = record { least = omega (arith, ints); greatest = omega (arith, ints) }
    by false false e f = record { least = omega (arith, ints); greatest = omega (arith, ints) }

-- A heading modulo 3,600 tenths of a degree is within 0 to 3,599.
pub in_circle : (x : ℤ) → IsInRange (limit 0 3599) (modulo x 3600)
unfolding modulo
in_circle (pos a) = let h : a % 3600 < 3600 = mod-lt a (omega arith) in record { least = omega (arith, ints); greatest = omega (arith, ints) }
in_circle (negsuc a) = record { least = omega (arith, ints); greatest = omega (arith, ints) }
