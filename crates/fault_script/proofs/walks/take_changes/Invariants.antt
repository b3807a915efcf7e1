use Rattle.std.proofs.Common.{length, ◌-◌, ◌≡◌}
use Rattle.fault_script.specs.Walks.{HaveCome, values_taken}
use Rattle.fault_script.proofs.walks.take_changes.Given as goal

abbrev pub invariant-loop-taken : goal.invariant-loop-taken
invariant-loop-taken l = record {
  taken : HaveCome l.changes l.frame l.taken;
  values : l.values ≡ values_taken l.changes l.taken;
}

abbrev pub decreases-loop-taken : goal.decreases-loop-taken
decreases-loop-taken l = length l.changes - l.taken
