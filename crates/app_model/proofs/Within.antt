-- Lemmas on numbers and areas within ranges.
use Rattle.std.proofs.Common.{◌≡◌, ◌≤◌, ℕ, zero, suc, ℤ, pos, negsuc, ◌+ℤ◌, ◌*ℤ◌, ◌<◌, ◌+◌, ◌*◌, Bool, true, false, if◌then◌else◌, arith}
use Rattle.std.specs.Prelude.{List}
use Rattle.std.proofs.lemmas.Int.{ints, clamps}
use native.Mathlib.Nat.{div-le_self}
use Rattle.scram_types.specs.declared.ranges.Range.{Range}
use Rattle.app_model.specs.declared.seen.Seen.{Seen}
use Rattle.scram_types.specs.Numbers.{part, word}
use Rattle.scram_types.specs.Ranges.{limit}
use Rattle.scram_types.proofs.Clamping.{IsInRange, in_clamp}
use Rattle.kind_table.specs.Ranges.{mode_range}
use Rattle.app_model.specs.Reads.{own_word, ticks_after}
use Rattle.app_model.specs.Orders.{faded}

-- Each word of the area except the status lies in its range.
abbrev pub Within : (ℕ → Range) → List ℤ → Type 0
Within range area = (i : ℕ) → 0 < i → i < 8 → IsInRange (range i) (word area i)

pub each : (P : ℕ → Type 0) → P 1 → P 2 → P 3 → P 4 → P 5 → P 6 → P 7 → (i : ℕ) → 0 < i → i < 8 → P i
each P a b c d e f g zero l h = absurd (omega arith)
each P a b c d e f g (suc zero) l h = a
each P a b c d e f g (suc (suc zero)) l h = b
each P a b c d e f g (suc (suc (suc zero))) l h = c
each P a b c d e f g (suc (suc (suc (suc zero)))) l h = d
each P a b c d e f g (suc (suc (suc (suc (suc zero))))) l h = e
each P a b c d e f g (suc (suc (suc (suc (suc (suc zero)))))) l h = f
each P a b c d e f g (suc (suc (suc (suc (suc (suc (suc zero))))))) l h = g
each P a b c d e f g (suc (suc (suc (suc (suc (suc (suc (suc i)))))))) l h = absurd (omega arith)

pub in_choice : (b : Bool) (r s : Range) (x y : ℤ) → IsInRange r x → IsInRange s y → IsInRange (if b then r else s) (if b then x else y)
in_choice true r s x y p q = p
in_choice false r s x y p q = q

pub in_either : (b : Bool) (r : Range) (x y : ℤ) → IsInRange r x → IsInRange r y → IsInRange r (if b then x else y)
in_either true r x y p q = p
in_either false r x y p q = q

pub in_zero : (r : Range) → IsInRange r (pos 0)
in_zero r = record { least = omega (arith, ints); greatest = omega (arith, ints) }

pub in_one : IsInRange (limit 0 1) (pos 1)
in_one = record { least = omega (arith, ints); greatest = omega (arith, ints) }

pub in_number : (a n : ℕ) → n ≤ a → IsInRange (limit 0 a) (pos n)
in_number a n h = record { least = omega (arith, ints); greatest = omega (arith, ints) }

pub in_sum : (a b : ℕ) (x y : ℤ) → IsInRange (limit 0 a) x → IsInRange (limit 0 b) y → IsInRange (limit 0 (a + b)) (x +ℤ y)
in_sum a b x y p q = record { least = omega (arith, ints, p.least, q.least); greatest = omega (arith, ints, p.greatest, q.greatest) }

pub in_twice : (n : ℕ) (x : ℤ) → IsInRange (limit n n) x → IsInRange (limit (2 * n) (2 * n)) (pos 2 *ℤ x)
in_twice n x p = record { least = omega (arith, ints, p.least, p.greatest); greatest = omega (arith, ints, p.least, p.greatest) }

pub in_faded : (r : Range) (x : ℤ) (n : ℕ) → IsInRange r x → IsInRange r (faded x n)
unfolding faded part
in_faded r (pos a) n p = record { least = omega (arith, ints, p.least, p.greatest, div-le_self a n); greatest = omega (arith, ints, p.least, p.greatest, div-le_self a n) }
in_faded r (negsuc a) n p = record { least = omega (arith, ints, p.least, p.greatest, div-le_self (suc a) n); greatest = omega (arith, ints, p.least, p.greatest, div-le_self (suc a) n) }

faded_last : (x : ℤ) → faded x 1 ≡ pos 0
unfolding faded part
faded_last (pos a) = omega (arith, ints)
faded_last (negsuc a) = omega (arith, ints)

pub in_faded_last : (x : ℤ) → IsInRange (limit 0 0) (faded x 1)
in_faded_last x = let e = faded_last x in record { least = omega (arith, ints); greatest = omega (arith, ints) }

pub in_own : (kind : ℕ) (seen : Seen) (i : ℕ) → IsInRange (mode_range kind seen.mode.0 i) (own_word kind seen i)
unfolding own_word
in_own kind seen i = in_clamp _ _

pub in_ticks : (kind : ℕ) (seen : Seen) → IsInRange (limit 0 1000000) (own_word kind seen 6) → IsInRange (limit 0 1000000) (ticks_after kind seen)
unfolding ticks_after
in_ticks kind seen p = record { least = omega (arith, ints, clamps, p.least); greatest = omega (arith, ints, clamps) }
