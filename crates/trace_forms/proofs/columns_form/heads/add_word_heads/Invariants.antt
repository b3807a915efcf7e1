use Rattle.std.proofs.Common.{◌≡◌, ◌+◌, ◌*◌, ◌≤◌, ◌++◌, length}
use Rattle.form_base.specs.Texts.{texts_below}
use Rattle.trace_forms.specs.columns_form.Heads.{word_head}
use Rattle.trace_forms.proofs.columns_form.heads.add_word_heads.Given as goal

abbrev pub invariant-loop-i : goal.invariant-loop-i
invariant-loop-i l =
    (l.line ≡ l.initial.line ++ texts_below (word_head l.app) l.i)
    × (length l.line ≤ length l.initial.line + 34 * l.i)
