use Rattle.kernel_pair.specs.Rounds.{IsFlownOn, left_in}
use Rattle.kernel_pair.proofs.rounds.run_unit.Given as goal

abbrev pub invariant-loop-event : goal.invariant-loop-event
invariant-loop-event g l = IsFlownOn l.initial.core l.core (Unit {0})

abbrev pub decreases-loop-event : goal.decreases-loop-event
decreases-loop-event g l = left_in l.core
