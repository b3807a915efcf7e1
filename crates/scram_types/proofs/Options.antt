-- Lemmas on options.
use Rattle.std.proofs.Common.{◌≡◌, false, refl, ◌⊎◌}
use mathlib.Core.Logic.{inl, inr}
use Rattle.std.specs.Prelude.{Option, Some, None, is_some}
use Rattle.std.specs.Option.{option_or}
pub use Rattle.std.proofs.lemmas.Option.{same_Some as same_some}

pub some_none : {A : Type 0} {P : Type 0} (x : A) → Some x ≡ None → P
some_none x e = absurd (cc)

pub none_some : {A : Type 0} {P : Type 0} (x : A) → None ≡ Some x → P
none_some x e = absurd (cc)

pub none_or_some : {A : Type 0} (o : Option A) → (o ≡ None) ⊎ ((x : A) × (o ≡ Some x))
none_or_some None = inl refl
none_or_some (Some x) = inr (x, refl)

pub none_if_not_some : {A : Type 0} (o : Option A) → is_some o ≡ false → o ≡ None
none_if_not_some None e = refl
none_if_not_some (Some x) e = absurd (cc)

-- Lemmas on `option_or`, the first of two options that is not `None`.

pub none_left : {A : Type 0} (o p : Option A) → option_or o p ≡ None → o ≡ None
none_left None p e = refl
none_left (Some x) p e = some_none x e

pub none_right : {A : Type 0} (o p : Option A) → option_or o p ≡ None → p ≡ None
none_right None p e = e
none_right (Some x) p e = some_none x e

pub none_both : {A : Type 0} (o p : Option A) → o ≡ None → p ≡ None → option_or o p ≡ None
none_both o p e f = rw (e) f

pub some_either : {A : Type 0} (o p : Option A) (x : A) → option_or o p ≡ Some x → (o ≡ Some x) ⊎ (p ≡ Some x)
some_either None p x e = inr e
some_either (Some y) p x e = inl e
