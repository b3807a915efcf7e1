-- Lemmas on the change frames of a window.
use Rattle.std.proofs.Common.{◌≡◌, ◌∙◌, ℕ, zero, suc, ◌+◌, ◌-◌, ◌<◌, ◌≤◌, ap, arith, refl, sym, Bool, false}
use mathlib.Core.Logic.{inl, inr}
use Rattle.std.specs.Prelude.{if◌then◌else◌}
use Rattle.std.proofs.Math.Bool.{and-false}
use Rattle.scram_types.specs.Bits.{count_below}
use Rattle.scram_types.specs.Scripts.{ScriptParts}
use Rattle.scram_types.specs.Specification.{Parts}
use Rattle.scram_types.proofs.BitSets.{count_none, count_same}
use Rattle.scram_types.proofs.Naturals.{at_or_below, below_test, not_below_test}
use Rattle.fault_script.specs.Assumption.{changes_upto, is_change_frame}
use Rattle.explain_form.specs.Laws.{WindowsAreExact}
use Rattle.explain_form.specs.Outsides.{is_change_told, is_in_window}

module _ (spec : Parts) (script : ScriptParts) where
  -- `changes_upto` returns the number of change frames up to frame `f`.
  upto_is : (f : ℕ) → changes_upto spec script f ≡ count_below (is_change_frame spec script) (suc f)
  upto_is zero = refl
  upto_is (suc f) = ap (λ (n : ℕ). n + (if is_change_frame spec script (suc f) then 1 else 0)) (upto_is f)

  module _ (last : ℕ) where
    abbrev before : ℕ
    before = suc (last - spec.window)

    -- No frame before the window is printed. Frame 0 is never printed, since it is not a change frame.
    none_before : (f : ℕ) → f < before → is_change_told spec script last f ≡ false
    none_before zero low = and-false (is_in_window spec last 0)
    none_before (suc f) low = rw (not_below_test last (suc f + spec.window) (omega (arith, low))) refl

    -- A frame at or after the start of the window is printed if and only if it is a change frame.
    same_after : (f : ℕ) → before ≤ f → is_change_told spec script last f ≡ is_change_frame spec script f
    same_after f high = rw (below_test last (f + spec.window) (omega (arith, high))) refl

    counted : (n : ℕ) → before ≤ n → count_below (is_change_told spec script last) n + count_below (is_change_frame spec script) before ≡ count_below (is_change_frame spec script) n
    counted zero high = absurd (omega (arith, high))
    counted (suc n) high = elim (at_or_below before n high) [
      | inl lower ↦
          (let rest = counted n lower in
          let more : ◌≡◌ {A = ℕ} (if is_change_told spec script last n then 1 else 0) (if is_change_frame spec script n then 1 else 0) = ap (λ (b : Bool). if b then 1 else 0) (same_after n lower) in
          omega (arith, rest, more))
      | inr here ↦
          (let none : count_below (is_change_told spec script last) before ≡ 0 =
          count_same (is_change_told spec script last) (λ f. false) before none_before ∙ count_none before in
          let at : count_below (is_change_told spec script last) (suc n) ≡ 0 = ap (count_below (is_change_told spec script last)) (sym here) ∙ none in
          let all = ap (count_below (is_change_frame spec script)) here in
          omega (arith, at, all))
    ]

pub windows_are_exact : WindowsAreExact
windows_are_exact spec script last =
    let all = counted spec script last (suc last) (omega arith) in
    let upto = upto_is spec script last in
    let early = upto_is spec script (last - spec.window) in
    omega (arith, all, upto, early)
