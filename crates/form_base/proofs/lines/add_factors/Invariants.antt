use Rattle.std.proofs.Common.{◌≡◌, ◌+◌, ◌*◌, ◌≤◌, ◌++◌, length, drop}
use Rattle.form_base.specs.Lines.{factors_text}
use Rattle.form_base.proofs.lines.add_factors.Given as goal

abbrev pub invariant-loop-i : goal.invariant-loop-i
invariant-loop-i l =
    (l.line ++ factors_text (drop l.i l.factors) l.i l.values ≡ l.initial.line ++ factors_text l.factors 0 l.values)
    × (length l.line ≤ length l.initial.line + 34 * l.i)
