-- Canonical values have no float and are not deep. Therefore their texts are exact and are read back.
use Rattle.std.proofs.Common.{◌≡◌, ◌≤◌, ℕ, false, List, [], ◌∷◌, map, arith, refl, ap, ◌∙◌}
use Rattle.std.specs.Prelude.{Some, ℤ, pos, negsuc}
use Rattle.serde_json.specs.Data.{Data, depth, items_depth}
use Rattle.serde_json.specs.Find.{is_float, of_integer}
use Rattle.serde_json.specs.Read.{max_depth, read}
use Rattle.serde_json.specs.View.{items_of}
use Rattle.serde_json.specs.Written.{compact_text, has_float, items_have_float}

pub no_float : {A : Type 0} → (f : A → Data) → ((a : A) → has_float (f a) ≡ false) → (xs : List A) → items_have_float (items_of (map f xs)) ≡ false
no_float f h [] = refl
no_float f h (x ∷ xs) = rw (h x, no_float f h xs) refl

pub integer_no_float : (n : ℤ) → is_float (of_integer n) ≡ false
integer_no_float (pos n) = refl
integer_no_float (negsuc n) = refl

-- If each item of a list is at most `most` deep, the items of the list are at most `most` deep.
pub low : {A : Type 0} → (f : A → Data) → (most : ℕ) → ((a : A) → depth (f a) ≤ most) → (xs : List A) → items_depth (items_of (map f xs)) ≤ most
low f most h [] = omega arith
low f most h (x ∷ xs) = let here = h x in let rest = low f most h xs in omega (arith, here, rest)

pub written_text : (d e : Data) (bytes : List ℕ) → d ≡ e → has_float e ≡ false → (has_float d ≡ false → bytes ≡ compact_text d) → bytes ≡ compact_text e
written_text d e bytes eq plain text = text (rw eq plain) ∙ ap compact_text eq

pub written_value : (d e : Data) (bytes : List ℕ) → d ≡ e → depth e ≤ max_depth → (depth d ≤ max_depth → read bytes ≡ Some d) → read bytes ≡ Some e
written_value d e bytes eq deep value = value (rw eq deep) ∙ ap (λ (x : Data). Some x) eq
