use Rattle.std.proofs.Common.{length}
use Rattle.dep_order.specs.Chains.{longest}
use Rattle.dep_order.specs.Timetables.{IsTableOf, timed_chart}
use Rattle.dep_order.proofs.timetables.offsets_in.Given as goal

abbrev pub invariant-loop-links : goal.invariant-loop-links
invariant-loop-links l = IsTableOf (longest (timed_chart l.spec l.phase l.times) l._links) (length l.spec.apps) l.offsets
