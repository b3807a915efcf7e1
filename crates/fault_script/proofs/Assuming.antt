-- No frame of a script leaves the failure assumption if and only if the script keeps to it.
use Rattle.std.proofs.Common.{◌≡◌, ℕ, zero, suc, ◌+◌, ◌-◌, ◌<◌, ◌≤◌, Bool, true, false, not, refl, arith, ap, sym, ◌∙◌, length}
use Rattle.std.specs.Prelude.{◌&&◌, ◌==◌, Option, Some, None, if◌then◌else◌, nat_le}
use Rattle.std.proofs.lemmas.Bool.Decides.{nat_tests}
use Rattle.scram_types.proofs.Naturals.{differ_test, plus_one, not_below_test, not_below}
use Rattle.scram_types.proofs.Options.{some_none}
use Rattle.scram_types.proofs.Searches.{below_none, none_below}
use Rattle.scram_types.specs.Searches.{first_below}
use Rattle.scram_types.specs.Scripts.{ScriptParts}
use Rattle.scram_types.specs.Specification.{Parts}
use Rattle.scram_types.proofs.Booleans.{and_false, right_false}
use Rattle.fault_script.specs.declared.assumption.Outside.{Outside}
use Rattle.fault_script.specs.Assumption.{IsWithin, WithinWhereNowhereOutside, brings_too_many_down, changes_upto, down_below, first_outside, has_too_many_down, is_change_frame, is_change_too_many, outside_at}

pub outside_end : (spec : Parts) (script : ScriptParts) (f : ℕ) (o : Option Outside) → f ≡ script.frames → first_below (outside_at spec script) f ≡ None → outside_at spec script script.frames ≡ o
    → first_outside spec script ≡ o
outside_end spec script f o last before here = rw (ap (first_below (outside_at spec script)) (sym last) ∙ before) here

pub two_tests : (a b : Bool) (x y : Outside) → (if a then Some x else (if b then Some y else None)) ≡ None → (a ≡ false) × (b ≡ false)
two_tests true b x y e = some_none x e
two_tests false true x y e = some_none y e
two_tests false false x y e = (refl, refl)

tests_two : (a b : Bool) (x y : Outside) → a ≡ false → b ≡ false → (if a then Some x else (if b then Some y else None)) ≡ None
tests_two a b x y p q = rw (p, q) refl

earlier : (a b : ℕ) → a < suc b → (a == b) ≡ false → a < b
earlier a b h e = grind (arith, nat_tests)

-- Lemmas on counts of change frames.

more_by : (b : Bool) (n : ℕ) → (n ≤ n + (if b then 1 else 0)) × (n + (if b then 1 else 0) ≤ n + 1)
more_by true n = (omega arith, omega arith)
more_by false n = (omega arith, omega arith)

pub upto_grows : (spec : Parts) (script : ScriptParts) (f : ℕ) → changes_upto spec script f ≤ changes_upto spec script (suc f)
upto_grows spec script f = (more_by (is_change_frame spec script (suc f)) (changes_upto spec script f)).0

pub upto_most : (spec : Parts) (script : ScriptParts) (f : ℕ) → changes_upto spec script f ≤ f
upto_most spec script zero = omega arith
upto_most spec script (suc f) =
    let most = upto_most spec script f in
    let one = (more_by (is_change_frame spec script (suc f)) (changes_upto spec script f)).1 in
    omega arith

upto_after : (spec : Parts) (script : ScriptParts) (f w : ℕ) → changes_upto spec script (f - w) ≤ changes_upto spec script (suc f - w)
upto_after spec script f w = by_side (nat_le w f) refl
  where
    by_side : (b : Bool) → nat_le w f ≡ b → changes_upto spec script (f - w) ≤ changes_upto spec script (suc f - w)
    by_side true e =
        let inside : w ≤ f = grind (arith, nat_tests) in
        let next : suc f - w ≡ suc (f - w) = omega arith in
        rw (next) (upto_grows spec script (f - w))
    by_side false e =
        let outside : f < w = grind (arith, nat_tests) in
        let a : f - w ≡ 0 = omega arith in
        let b : suc f - w ≡ 0 = omega arith in
        rw (a, b) (omega arith)

pub start_up : (script : ScriptParts) (n : ℕ) → down_below script 0 n ≡ 0
start_up script zero = refl
start_up script (suc n) = rw (start_up script n) refl

module _ (spec : Parts) (script : ScriptParts) where
  in_scope : first_outside spec script ≡ None → (f : ℕ) → f ≤ script.frames → down_below script f (length spec.procs) ≤ spec.halts
  in_scope e zero h = rw (start_up script (length spec.procs)) (omega arith)
  in_scope e (suc f) h =
      let at = below_none (outside_at spec script) (suc script.frames) f e (omega arith) in
      let tests = two_tests (brings_too_many_down spec script f) (is_change_too_many spec script f) _ _ at in
      not_below spec.halts (down_below script (suc f) (length spec.procs))
      (ap (has_too_many_down spec script) (plus_one f) ∙ and_false (not (f == script.frames)) (has_too_many_down spec script (f + 1)) tests.0 (rw (differ_test f script.frames (λ e. omega arith)) refl))

  Few : ℕ → Type 0
  Few f = changes_upto spec script f ≤ changes_upto spec script (f - spec.window) + spec.changes + 1

  few_next : (f : ℕ) (change : Bool) → is_change_frame spec script (suc f) ≡ change → is_change_too_many spec script (suc f) ≡ false → Few f → Few (suc f)
  unfolding Few
  few_next f true is few before =
      let window = not_below (spec.changes + 1) (changes_upto spec script (suc f) - changes_upto spec script (suc f - spec.window))
      (and_false (is_change_frame spec script (suc f)) _ few is) in
      omega arith
  few_next f false is few before =
      let same : changes_upto spec script (suc f) ≡ changes_upto spec script f = rw (is) (omega arith) in
      let after = upto_after spec script f spec.window in
      rw (same) (omega arith)

  few_all : first_outside spec script ≡ None → (f : ℕ) → f ≤ script.frames → Few f
  unfolding Few
  few_all e zero h = omega arith
  few_all e (suc f) h =
      let at = below_none (outside_at spec script) (suc script.frames) (suc f) e (omega arith) in
      let tests = two_tests (brings_too_many_down spec script (suc f)) (is_change_too_many spec script (suc f)) _ _ at in
      few_next f (is_change_frame spec script (suc f)) refl tests.1 (few_all e f (omega arith))

  halts_nowhere : IsWithin spec script → (f : ℕ) (ends : Bool) → f < suc script.frames → (f == script.frames) ≡ ends → (not ends && has_too_many_down spec script (f + 1)) ≡ false
  halts_nowhere within f true less is = refl
  halts_nowhere within f false less is =
      not_below_test spec.halts (down_below script (f + 1) (length spec.procs)) (within.scope (f + 1) (let apart : f < script.frames = earlier f script.frames less is in omega arith))

  at_nowhere : IsWithin spec script → (f : ℕ) → f < suc script.frames → outside_at spec script f ≡ None
  at_nowhere within f less =
      let few = within.few f (omega arith) in
      tests_two (brings_too_many_down spec script f) (is_change_too_many spec script f) _ _
      (halts_nowhere within f (f == script.frames) less refl)
      (right_false (is_change_frame spec script f) _ (not_below_test (spec.changes + 1) (changes_upto spec script f - changes_upto spec script (f - spec.window)) (omega arith)))

pub leaves_nowhere : WithinWhereNowhereOutside
unfolding Few
leaves_nowhere spec script = record {
  within = λ e. record { scope = in_scope spec script e; few = few_all spec script e };
  nowhere = λ within. none_below (outside_at spec script) (suc script.frames) (at_nowhere spec script within);
}
