use Rattle.std.proofs.Common.{◌≡◌, ◌+◌, ◌*◌, ◌≤◌, ◌++◌, length, drop}
use Rattle.trace_forms.specs.columns_form.Fields.{up_fields}
use Rattle.trace_forms.proofs.columns_form.fields.add_up_fields.Given as goal

abbrev pub invariant-loop-proc : goal.invariant-loop-proc
invariant-loop-proc l =
    (l.line ++ up_fields (drop l._proc-index l.spec.procs) l.left ≡ l.initial.line ++ up_fields l.spec.procs l.up)
    × (length l.line ≤ length l.initial.line + 2 * l._proc-index)
