use Rattle.reconf_spec.proofs.Plain.{spec_depth, spec_no_float}
use Rattle.scram_doc.proofs.Plain.{written_text, written_value}
use Rattle.reconf_spec.proofs.texts.write_text.Goals as goal

pub returns-in-Ok-to_vec-clause-text : goal.returns-in-Ok-to_vec-clause-text
returns-in-Ok-to_vec-clause-text c = written_text _ _ _ c.in-Ok.ensures (spec_no_float c.args.spec.now) c.in-Ok-to_vec.ensures.text

pub returns-in-Ok-to_vec-clause-value : goal.returns-in-Ok-to_vec-clause-value
returns-in-Ok-to_vec-clause-value c = written_value _ _ _ c.in-Ok.ensures (spec_depth c.args.spec.now) c.in-Ok-to_vec.ensures.reads_back
