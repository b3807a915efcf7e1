use Rattle.std.proofs.Common.{◌≡◌, length}
use Rattle.dep_order.specs.Timetables.{IsTableOf, offset_where_on}
use Rattle.dep_order.proofs.timetables.keep_where_on.Given as goal

abbrev pub invariant-loop-a : goal.invariant-loop-a
invariant-loop-a l = record {
  width : length l.kept ≡ 8;
  kept : IsTableOf (offset_where_on l.times l.offsets) l.a l.kept;
}
