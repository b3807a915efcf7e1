-- A text that is read as a name spells a valid name.
use Rattle.std.proofs.Common.{◌≡◌, ℕ, Bool, true, false, cond, List, refl, subst}
use Rattle.std.specs.Prelude.{Some, None}
use Rattle.scram_types.specs.Names.{is_name, name_of}

same_text : (x y : List ℕ) → Some x ≡ Some y → x ≡ y
same_text x y e = cc

spelled_by : (b : Bool) (text name : List ℕ) → is_name text ≡ b → cond b (Some text) None ≡ Some name → is_name name ≡ true
spelled_by true text name is e = subst (λ (t : List ℕ). is_name t ≡ true) (same_text text name e) is
spelled_by false text name is e = absurd (let none : None ≡ Some name = e in cc)

pub name_spelled : (text name : List ℕ) → name_of text ≡ Some name → is_name name ≡ true
name_spelled text name e = spelled_by (is_name text) text name refl e
