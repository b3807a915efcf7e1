use Rattle.std.proofs.Common.{◌≡◌, ◌+◌, ◌*◌, ◌≤◌, ◌++◌, length, drop}
use Rattle.trace_forms.specs.columns_form.Heads.{factor_heads}
use Rattle.trace_forms.proofs.columns_form.heads.add_factor_heads.Given as goal

abbrev pub invariant-loop-factor : goal.invariant-loop-factor
invariant-loop-factor l =
    (l.line ++ factor_heads (drop l.factor-index l.spec.factors) ≡ l.initial.line ++ factor_heads l.spec.factors)
    × (length l.line ≤ length l.initial.line + 21 * l.factor-index)
