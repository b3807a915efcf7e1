use Rattle.std.proofs.Common.{◌≡◌, length}
use Rattle.std.specs.Prelude.{slice_index}
use Rattle.scram_types.specs.Searches.{greatest_below}
use Rattle.dep_order.specs.Chains.{time_added}
use Rattle.dep_order.specs.Timetables.{IsTableOf, timed_chart}
use Rattle.dep_order.proofs.timetables.offsets_after.Given as goal

abbrev pub invariant-loop-a : goal.invariant-loop-a
invariant-loop-a l = record {
  width : length l.offsets ≡ 8;
  holds : IsTableOf (λ a. greatest_below (time_added (timed_chart l.spec l.phase l.times) (slice_index l.before) a) (length l.spec.apps)) l.a l.offsets;
}
