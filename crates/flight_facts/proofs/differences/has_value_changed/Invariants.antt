use Rattle.std.proofs.Common.{◌≡◌, drop}
use Rattle.flight_facts.specs.Differences.{is_any, values_changed}
use Rattle.flight_facts.proofs.differences.has_value_changed.Given as goal

abbrev pub invariant-loop-i : goal.invariant-loop-i
invariant-loop-i l = is_any (values_changed (drop l.i l.spec.factors) l.i l.before l.after) ≡ is_any (values_changed l.spec.factors 0 l.before l.after)
