use Rattle.std.proofs.Common.{◌≡◌, ◌≤◌, length, subst, sym}
use Rattle.scram_types.specs.declared.limits.TheConstants.{MAX_SCRIPT_BYTES}
use Rattle.scram_types.specs.Specification.{IsSpec}
use Rattle.fault_script.specs.Texts.{script_text}
use Rattle.fault_script.proofs.Back.{text_back}
use Rattle.scram_doc.proofs.Plain.{written_text, written_value}
use Rattle.fault_script.proofs.Plain.{script_depth, script_no_float}
use Rattle.fault_script.proofs.TextSizes.{script_text_short}
use Rattle.fault_script.proofs.writing.write_script.Goals as goal

pub returns-in-Ok-to_vec-clause-text : goal.returns-in-Ok-to_vec-clause-text
returns-in-Ok-to_vec-clause-text c = written_text _ _ _ c.in-Ok.ensures (script_no_float c.args.spec.now c.args.script.now) c.in-Ok-to_vec.ensures.text

pub returns-in-Ok-to_vec-clause-value : goal.returns-in-Ok-to_vec-clause-value
returns-in-Ok-to_vec-clause-value c = written_value _ _ _ c.in-Ok.ensures (script_depth c.args.spec.now c.args.script.now) c.in-Ok-to_vec.ensures.reads_back

pub returns-in-Ok-to_vec-clause-back : goal.returns-in-Ok-to_vec-clause-back
returns-in-Ok-to_vec-clause-back c =
    let value = written_value _ _ _ c.in-Ok.ensures (script_depth c.args.spec.now c.args.script.now) c.in-Ok-to_vec.ensures.reads_back in
    let is : IsSpec c.args.spec.now = subst IsSpec c.spec.view_is c.spec.invariant in
    let text : c.in-Ok-to_vec.text.items ≡ script_text c.args.spec.now c.args.script.now =
    written_text _ _ _ c.in-Ok.ensures (script_no_float c.args.spec.now c.args.script.now) c.in-Ok-to_vec.ensures.text in
    λ fits. text_back c.args.spec.now c.args.script.now c.in-Ok-to_vec.text.items is c.in-Ok-to_vec.ensures.utf8 value fits
    (subst (λ bytes. length bytes ≤ MAX_SCRIPT_BYTES) (sym text) (script_text_short c.args.spec.now c.args.script.now is fits))
