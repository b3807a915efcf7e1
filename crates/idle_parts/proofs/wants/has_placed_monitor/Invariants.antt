use Rattle.std.proofs.Common.{◌≡◌, false}
use Rattle.scram_types.specs.Searches.{any_below}
use Rattle.idle_parts.specs.Wants.{is_placed_monitor}
use Rattle.idle_parts.proofs.wants.has_placed_monitor.Given as goal

abbrev pub invariant-loop-a : goal.invariant-loop-a
invariant-loop-a l = any_below (is_placed_monitor l.spec) l.a ≡ false
