use Rattle.mission_gen.proofs.Walking.{Walked}
use Rattle.mission_gen.proofs.walks.make_changes.Given as goal

abbrev pub invariant-loop-done : goal.invariant-loop-done
invariant-loop-done l = Walked l.n l.done l.walk
