use Rattle.std.proofs.Common.{◌≡◌, ◌≤◌, ◌+◌}
use Rattle.scram_types.specs.Searches.{greatest_below}
use Rattle.scram_types.specs.Lookups.{conf_id}
use Rattle.dep_order.specs.Timetables.{halting_time, initialising_time, preparing_time}
use Rattle.coverage_check.proofs.timing.slowest.Given as goal

abbrev pub invariant-loop-k : goal.invariant-loop-k
invariant-loop-k l = record {
  way : l.slowest ≡ greatest_below (λ k. preparing_time l.spec (conf_id k) + initialising_time l.spec (conf_id k) + 1 + halting_time l.spec (conf_id k)) l.k;
  most : l.slowest ≤ 196606;
}
