use Rattle.std.proofs.Common.{◌≡◌, ◌≤◌}
use Rattle.std.specs.Prelude.{slice_index}
use Rattle.scram_types.specs.Searches.{greatest_below}
use Rattle.dep_order.specs.Chains.{time_added}
use Rattle.dep_order.specs.Timetables.{timed_chart}
use Rattle.dep_order.proofs.timetables.offset_after.Given as goal

abbrev pub invariant-loop-b : goal.invariant-loop-b
invariant-loop-b l = record {
  most : l.last ≤ 128;
  greatest : l.last ≡ greatest_below (time_added (timed_chart l.spec l.phase l.times) (slice_index l.offsets) l.a) l.b;
}
