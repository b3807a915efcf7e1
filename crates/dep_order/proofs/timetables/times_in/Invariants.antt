use Rattle.std.proofs.Common.{◌≡◌, length}
use Rattle.dep_order.specs.Timetables.{IsTableOf, phase_time}
use Rattle.dep_order.proofs.timetables.times_in.Given as goal

abbrev pub invariant-loop-a : goal.invariant-loop-a
invariant-loop-a l = record {
  width : length l.times ≡ 8;
  times : IsTableOf (phase_time l.spec l.c l.phase) l.a l.times;
}
