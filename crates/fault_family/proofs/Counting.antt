-- Lemmas on the number of frames that change the environment, and on the test of each frame for the failure
-- assumption.
use Rattle.std.proofs.Common.{◌≡◌, ◌≢◌, ℕ, zero, suc, ◌+◌, ◌-◌, ◌≤◌, true, false, not, List, [], ◌∷◌, arith, refl, ap, sym, ◌∙◌}
use Rattle.std.specs.Prelude.{Option, Some, None, is_some}
use mathlib.Core.Logic.{inl, inr}
use Rattle.scram_types.proofs.Naturals.{at_or_below}
use Rattle.scram_types.proofs.Searches.{first_found, none_more}
use Rattle.scram_types.specs.Searches.{first_below}
use Rattle.scram_types.specs.Scripts.{ScriptParts}
use Rattle.scram_types.specs.Specification.{Each, Parts}
use Rattle.scram_types.specs.declared.specification.Bound.{Bound}
use Rattle.coverage_check.specs.Timing.{greatest_bound}
use Rattle.fault_script.specs.declared.assumption.Outside.{Outside}
use Rattle.fault_script.specs.Assumption.{changes_upto, is_change_frame, is_same_env, outside_at}
use Rattle.fault_script.specs.Environments.{env_at}
use Rattle.fault_script.proofs.Assuming.{upto_grows}
use Rattle.fault_family.specs.Scripts.{is_within}

-- If no bound exceeds `most`, then the greatest bound is at most `most`.
pub greatest_within : (bounds : List Bound) (most : ℕ) → Each (λ (bound : Bound). bound.frames ≤ most) bounds → greatest_bound bounds ≤ most
greatest_within [] most each = omega arith
greatest_within (bound ∷ bounds) most each =
    let first = each 0 bound refl in
    let rest = greatest_within bounds most (λ i b there. each (suc i) b there) in
    omega (arith, first, rest)

-- A frame after the first is a change frame if and only if its environment differs from the environment of the
-- previous frame.
pub change_after_first : (spec : Parts) (script : ScriptParts) (f : ℕ) → f ≢ 0 → is_change_frame spec script f ≡ not (is_same_env (env_at spec script (f - 1)) (env_at spec script f))
change_after_first spec script zero some = absurd (some refl)
change_after_first spec script (suc f) some = let back : suc f - 1 ≡ f = omega arith in rw back refl

-- If a frame is a change frame, then the count of change frames up to the frame is one more than the count up to the
-- previous frame. Otherwise both counts are the same.
pub counted : (spec : Parts) (script : ScriptParts) (f : ℕ) → is_change_frame spec script f ≡ true → changes_upto spec script (f - 1) + 1 ≡ changes_upto spec script f
counted spec script zero is = absurd cc
counted spec script (suc f) is = let back : suc f - 1 ≡ f = omega arith in rw (back, is) refl

-- The count of change frames up to a frame is at least the count up to any earlier frame.
pub upto_before : (spec : Parts) (script : ScriptParts) (e f : ℕ) → e ≤ f → changes_upto spec script e ≤ changes_upto spec script f
upto_before spec script e zero before = let none : e ≡ 0 = omega (arith, before) in rw none (omega arith)
upto_before spec script e (suc f) before = elim (at_or_below e f before) [
  | inl earlier ↦ (let known = upto_before spec script e f earlier in let grows = upto_grows spec script f in omega (arith, known, grows))
  | inr last ↦ rw last (omega arith)
]

-- Lemmas on the search for the first frame that leaves the failure assumption. The script is within the assumption if
-- and only if there is no such frame.

outside_none : (o : Option Outside) → is_some o ≡ false → o ≡ None
outside_none None e = refl
outside_none (Some x) e = absurd cc

outside_some : (o : Option Outside) → is_some o ≡ true → (x : Outside) × (o ≡ Some x)
outside_some None e = absurd cc
outside_some (Some x) e = (x, refl)

module _ (spec : Parts) (script : ScriptParts) where
  pub leaves_at : (f : ℕ) → f ≤ script.frames → first_below (outside_at spec script) f ≡ None → is_some (outside_at spec script f) ≡ true → false ≡ is_within spec script
  leaves_at f inside before here =
      let shown = outside_some (outside_at spec script f) here in
      rw (first_found (outside_at spec script) (suc script.frames) f shown.0 before shown.1 (omega (arith, inside))) refl

  pub leaves_not_at : (f : ℕ) → first_below (outside_at spec script) f ≡ None → is_some (outside_at spec script f) ≡ false → first_below (outside_at spec script) (f + 1) ≡ None
  leaves_not_at f before here = none_more (outside_at spec script) f before (outside_none (outside_at spec script f) here)

  pub leaves_nowhere : (f : ℕ) → f ≡ script.frames + 1 → first_below (outside_at spec script) f ≡ None → true ≡ is_within spec script
  leaves_nowhere f end none =
      let last : f ≡ suc script.frames = omega (arith, end) in
      rw (ap (first_below (outside_at spec script)) (sym last) ∙ none) refl
