use Rattle.std.proofs.Common.{append_assoc}
use Rattle.faults_form.specs.Lines.{spelled_restart}
use Rattle.faults_form.proofs.lines.add_restart_text.Goals as goal

pub returns-clause-text : goal.returns-clause-text
unfolding spelled_restart
returns-clause-text c = rw (c.text-4.ensures.text, c.text-3.ensures.text, c.as_bytes.ensures.value, c.proc_name.ensures.name, c.text-2.ensures.text, c.number.ensures.text, c.text.ensures.text) (simp append_assoc)
