-- The test `int_le` on integers decides the order of integers.
use Rattle.std.proofs.Common.{int_le, ◌≡◌, Bool, true, false, refl, sym, subst}
use Rattle.std.specs.Prelude.{ℤ, ◌≤ℤ◌}
use lib.Signed.{le_z_yes}
use lib.Dec.{T}

told_true : (b : Bool) → T b → b ≡ true
told_true true h = refl
told_true false h = absurd h

pub int_is : (a b : ℤ) → a ≤ℤ b → int_le a b ≡ true
int_is a b h = told_true (int_le a b) h.le

pub int_of : (a b : ℤ) → int_le a b ≡ true → a ≤ℤ b
int_of a b e = le_z_yes (subst T (sym e) tt)
