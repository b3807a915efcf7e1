-- Lemmas on the reasons why a script violates the failure assumption.
use Rattle.std.proofs.Common.{◌≡◌, ◌∙◌, ℕ, suc, ◌+◌, ◌≤◌, ◌++◌, ap, append_assoc, arith, sym, List, Bool, true, false}
use Rattle.std.specs.Prelude.{Some, None, codes, if◌then◌else◌}
use Rattle.scram_types.specs.Scripts.{ScriptParts}
use Rattle.scram_types.specs.Specification.{Parts}
use Rattle.scram_types.proofs.Options.{same_some}
use Rattle.scram_types.proofs.Searches.{found_below}
use Rattle.fault_script.specs.declared.assumption.Outside.{Outside}
use Rattle.fault_script.specs.declared.assumption.OutsideKind.TheVariants as kind
use Rattle.fault_script.specs.Assumption.{brings_too_many_down, first_outside, is_change_too_many, outside_at}
use Rattle.form_base.specs.Texts.{texts_below}
use Rattle.explain_form.specs.Outsides.{change_frame_text, change_frames_text}

-- If the numbers of the change frames up to frame `last` were appended, the start of the line of change frames is
-- complete.
pub frames_told : (spec : Parts) (script : ScriptParts) (last n : ℕ) (old mid text : List ℕ) → mid ≡ old ++ codes "  frames" → last + 1 ≤ n → n ≤ last + 1
    → text ≡ mid ++ texts_below (change_frame_text spec script last) n → text ≡ old ++ change_frames_text spec script last
unfolding change_frames_text
frames_told spec script last n old mid text begun high low is =
    let end : n ≡ suc last = omega (arith, high, low) in
    is ∙ ap (λ (k : ℕ). mid ++ texts_below (change_frame_text spec script last) k) end
    ∙ ap (λ (front : List ℕ). front ++ texts_below (change_frame_text spec script last) (suc last)) begun
    ∙ append_assoc old (codes "  frames") (texts_below (change_frame_text spec script last) (suc last))

frame_by : (f : ℕ) (down changes : Bool) (outside : Outside)
    → (if down then Some (record { frame = f; kind = kind.Halts }) else (if changes then Some (record { frame = f; kind = kind.Changes }) else None)) ≡ Some outside
    → outside.frame ≡ f
frame_by f true changes outside e = sym (ap (λ (o : Outside). o.frame) (same_some _ outside e))
frame_by f false true outside e = sym (ap (λ (o : Outside). o.frame) (same_some _ outside e))
frame_by f false false outside e = absurd (cc)

-- The first frame in which a script violates the assumption is one of the script's frames, or the frame after the
-- last of them.
pub outside_inside : (spec : Parts) (script : ScriptParts) (outside : Outside) → first_outside spec script ≡ Some outside → outside.frame ≤ script.frames
outside_inside spec script outside e =
    let found = found_below (outside_at spec script) (suc script.frames) outside e in
    let at = frame_by found.0 (brings_too_many_down spec script found.0) (is_change_too_many spec script found.0) outside found.2 in
    omega (arith, found.1, at)
