use Rattle.std.proofs.Common.{◌≡◌, ◌+◌, ◌*◌, ◌≤◌, ◌++◌, length}
use Rattle.form_base.specs.Texts.{texts_below}
use Rattle.trace_forms.specs.columns_form.Fields.{word_field}
use Rattle.trace_forms.proofs.columns_form.fields.add_word_fields.Given as goal

abbrev pub invariant-loop-i : goal.invariant-loop-i
invariant-loop-i l =
    (l.line ≡ l.initial.line ++ texts_below (word_field l.kind.0 l.area) l.i)
    × (length l.line ≤ length l.initial.line + 21 * l.i)
