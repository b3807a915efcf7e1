use Rattle.std.proofs.Common.{append_assoc}
use Rattle.trace_forms.proofs.summary_form.lines.add_ranges.Goals as goal

pub returns-in-Some-Some-Some-clause-text : goal.returns-in-Some-Some-Some-clause-text
returns-in-Some-Some-Some-clause-text c =
    rw (c.in-Some-Some-Some.is-0, c.in-Some-Some-Some.is-1, c.in-Some-Some-Some.is-2, c.add_extremes-in-Some-Some-Some-2.ensures.text, c.text-in-Some-Some-Some-2.ensures.text, c.add_extremes-in-Some-Some-Some.ensures.text, c.text-in-Some-Some-Some.ensures.text, c.add_extremes.ensures.text, c.text.ensures.text) (simp append_assoc)
