use Rattle.std.proofs.Common.{◌≡◌, Err, refl}
use Rattle.fault_script.specs.Reading.{script_of}
use Rattle.form_base.specs.Refusals.{answer_of}
use Rattle.form_base.specs.declared.status.TheConstants.{BROKEN_SCRIPT}
use Rattle.form_base.specs.mission_files.Lines.{script_line}
use Rattle.document_explanations.specs.Scripts.{BreaksExplainedScript, explained_script_text}
use Rattle.document_explanations.proofs.Explained.{either}
use Rattle.document_explanations.proofs.scripts.ExplainedScriptDocumentScript.read.Goals as goal

pub returns-in-Err-Fault-clause-reads : goal.returns-in-Err-Fault-clause-reads
returns-in-Err-Fault-clause-reads c =
    let spec = c.args.self.now.spec.now in
    let fault = c.in-Err-Fault.fault in
    let value : script_of spec c.args.bytes.now ≡ Err fault = rw (c.in-Err-Fault.field-0-is) at c.in-Err-Fault.ensures.script in
    let explains : answer_of c.refuse.result ≡ (BROKEN_SCRIPT, explained_script_text spec fault c.args.bytes.now)
    → BreaksExplainedScript spec (answer_of c.refuse.result) c.args.bytes.now = λ is. record {
      first = (BROKEN_SCRIPT, script_line fault);
      breaks = record { fault = fault; is = value; line = refl };
      text = is;
    } in
    either explains c.refuse.ensures
