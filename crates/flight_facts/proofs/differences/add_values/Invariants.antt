use Rattle.std.proofs.Common.{◌≡◌, ◌+◌, ◌*◌, ◌≤◌, ◌++◌, length, drop}
use Rattle.std.specs.Prelude.{◌||◌}
use Rattle.flight_facts.specs.Differences.{is_any, comma_joined, comma_joined_after, values_changed}
use Rattle.flight_facts.proofs.differences.add_values.Given as goal

abbrev pub invariant-loop-i : goal.invariant-loop-i
invariant-loop-i l =
    (l.line ++ comma_joined_after l.any (values_changed (drop l.i l.spec.factors) l.i l.before l.after) ≡ l.initial.line ++ comma_joined (values_changed l.spec.factors 0 l.before l.after))
    × ((l.any || is_any (values_changed (drop l.i l.spec.factors) l.i l.before l.after)) ≡ is_any (values_changed l.spec.factors 0 l.before l.after))
    × (length l.line ≤ length l.initial.line + 34 * l.i)
