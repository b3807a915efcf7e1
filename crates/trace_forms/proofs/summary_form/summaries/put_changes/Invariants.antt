use Rattle.form_base.specs.Texts.{texts_below}
use Rattle.scram_io.specs.Outside.{Printed}
use Rattle.std.specs.Prelude.{ℕ, ◌+◌}
use Rattle.trace_forms.specs.summary_form.Summary.{change_text, first_row_after_decision}
use Rattle.trace_forms.proofs.summary_form.summaries.put_changes.Given as goal

abbrev pub invariant-loop-j : goal.invariant-loop-j
invariant-loop-j g l = Printed (g.K.Sink.state l.initial.out) (g.K.Sink.state l.out) (texts_below (λ (j : ℕ). change_text l.spec l.rows (first_row_after_decision l.rows l.report + j)) l.j)
