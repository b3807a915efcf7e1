use Rattle.std.proofs.Common.{append_assoc}
use Rattle.faults_form.specs.Lines.{spelled_change}
use Rattle.faults_form.proofs.lines.add_change_text.Goals as goal

pub returns-clause-text : goal.returns-clause-text
unfolding spelled_change
returns-clause-text c = rw (c.text-6.ensures.text, c.text-5.ensures.text, c.as_bytes-2.ensures.value, c.new_value_name.ensures.name, c.text-4.ensures.text, c.number.ensures.text, c.text-3.ensures.text, c.text-2.ensures.text, c.as_bytes.ensures.value, c.factor_name.ensures.name, c.text.ensures.text) (simp append_assoc)
