use Rattle.std.proofs.Common.{◌≡◌, ◌≤◌}
use Rattle.dep_order.specs.Timetables.{phase_length}
use Rattle.dep_order.proofs.timetables.length_of_phase.Given as goal

abbrev pub invariant-loop-a : goal.invariant-loop-a
invariant-loop-a l = record {
  most : l.length ≤ 144;
  longest : l.length ≡ phase_length l.times l.offsets l.a;
}
