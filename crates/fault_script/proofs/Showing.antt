-- In a script that fits, the environment of each frame satisfies `Shows`.
use Rattle.std.proofs.Common.{◌≡◌, ℕ, suc, ◌<◌, Bool, true, false, refl, arith, ap, sym, ◌∙◌, List, [], ◌∷◌, length, subst}
use Rattle.std.specs.Prelude.{◌&&◌, ◌==◌, Some, if◌then◌else◌, nat_le, slice_get}
use Rattle.std.proofs.lemmas.Option.{slice_get_within}
use Rattle.scram_types.specs.declared.scripts.Change.{Change}
use Rattle.scram_types.specs.declared.specification.Factor.{Factor}
use Rattle.scram_types.specs.Specification.{Parts}
use Rattle.scram_types.proofs.BitSets.{bit_is, bits_lt}
use Rattle.scram_types.proofs.Options.{same_some}
use Rattle.scram_types.proofs.Naturals.{equal}
use Rattle.scram_types.proofs.Booleans.{and_left}
use Rattle.fault_script.specs.Times.{is_up, value_after}
use Rattle.fault_script.specs.Fits.{IsChange}
use Rattle.fault_script.specs.Laws.{EnvironmentsShow}

-- If the value before a change has a property, and the change sets a value with that property, the value after the
-- change has the property.
keeps : (P : ℕ → Type 0) (b : Bool) (new old : ℕ) → (b ≡ true → P new) → P old → P (if b then new else old)
keeps P true new old made had = made refl
keeps P false new old made had = had

value_keeps : (P : ℕ → Type 0) (changes : List Change) (x f value : ℕ) → ((i : ℕ) (change : Change) → slice_get changes i ≡ Some change → change.factor.0 ≡ x → P change.value)
    → P value → P (value_after changes x f value)
value_keeps P [] x f value made had = had
value_keeps P (change ∷ changes) x f value made had =
    value_keeps P changes x f (if change.factor.0 == x && nat_le change.frame f then change.value else value) (λ i later there. made (suc i) later there)
    (keeps P (change.factor.0 == x && nat_le change.frame f) change.value value
    (λ test. made 0 change refl (equal change.factor.0 x (and_left (change.factor.0 == x) (nat_le change.frame f) test))) had)

changed_value : (spec : Parts) (frames : ℕ) (change : Change) → IsChange spec frames change → (x : ℕ) (factor : Factor) → change.factor.0 ≡ x → slice_get spec.factors x ≡ Some factor → change.value < length factor.values
changed_value spec frames change fits x factor is there =
    let same : fits.factor ≡ factor = same_some fits.factor factor (sym fits.there ∙ ap (slice_get spec.factors) is ∙ there) in
    subst (λ (z : Factor). change.value < length z.values) same fits.value

pub environments_show : EnvironmentsShow
environments_show spec script known fits f = record {
  up = λ p less up. bit_is (λ q. is_up script q f) (length spec.procs) p less ∙ (rw (up) refl);
  down = λ p less down. bit_is (λ q. is_up script q f) (length spec.procs) p less ∙ (rw (down) refl);
  past = bits_lt (λ q. is_up script q f) (length spec.procs);
  values = λ x factor there. value_keeps (λ v. v < length factor.values) script.changes x f 0
      (λ i change listed is. changed_value spec script.frames change (fits.changes i change listed) x factor is there)
      (let some = (known.factors x factor there).count.enough in omega arith);
  rest = λ x past. value_keeps (λ v. v ≡ 0) script.changes x f 0
      (λ i change listed is. (
      let fit = fits.changes i change listed in
      let inside = slice_get_within spec.factors change.factor.0 fit.factor fit.there in
      absurd (omega arith)))
      refl;
}
