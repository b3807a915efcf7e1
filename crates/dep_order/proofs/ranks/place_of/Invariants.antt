use Rattle.std.proofs.Common.{◌≡◌, ◌-◌, drop, length, true}
use Rattle.dep_order.specs.Timetables.{is_named}
use Rattle.dep_order.proofs.ranks.place_of.Given as goal

abbrev pub invariant-loop-place : goal.invariant-loop-place
invariant-loop-place l = is_named (drop l.place l.path) l.at.0 ≡ true

abbrev pub decreases-loop-place : goal.decreases-loop-place
decreases-loop-place l = length l.path - l.place
