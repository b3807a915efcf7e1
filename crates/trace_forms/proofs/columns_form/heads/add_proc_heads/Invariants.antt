use Rattle.std.proofs.Common.{◌≡◌, ◌+◌, ◌*◌, ◌≤◌, ◌++◌, length, drop}
use Rattle.trace_forms.specs.columns_form.Heads.{proc_heads}
use Rattle.trace_forms.proofs.columns_form.heads.add_proc_heads.Given as goal

abbrev pub invariant-loop-proc : goal.invariant-loop-proc
invariant-loop-proc l =
    (l.line ++ proc_heads (drop l.proc-index l.spec.procs) ≡ l.initial.line ++ proc_heads l.spec.procs)
    × (length l.line ≤ length l.initial.line + 20 * l.proc-index)
