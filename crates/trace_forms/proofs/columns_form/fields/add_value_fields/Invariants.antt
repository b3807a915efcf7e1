use Rattle.std.proofs.Common.{◌≡◌, ◌+◌, ◌*◌, ◌≤◌, ◌++◌, length, drop}
use Rattle.trace_forms.specs.columns_form.Fields.{value_fields}
use Rattle.trace_forms.proofs.columns_form.fields.add_value_fields.Given as goal

abbrev pub invariant-loop-i : goal.invariant-loop-i
invariant-loop-i l =
    (l.line ++ value_fields (drop l.i l.spec.factors) l.i l.values ≡ l.initial.line ++ value_fields l.spec.factors 0 l.values)
    × (length l.line ≤ length l.initial.line + 17 * l.i)
