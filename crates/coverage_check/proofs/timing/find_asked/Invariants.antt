use Rattle.std.proofs.Common.{◌≡◌, ◌<◌, ◌^◌}
use Rattle.scram_types.specs.Bits.{bits_below}
use Rattle.scram_types.specs.Lookups.{conf_id}
use Rattle.coverage_check.specs.Timing.{is_bound_asked}
use Rattle.coverage_check.proofs.timing.find_asked.Given as goal

abbrev pub invariant-loop-j : goal.invariant-loop-j
invariant-loop-j l = record {
  bits : l.bits ≡ bits_below (is_bound_asked l.spec (conf_id l.i)) l.j;
  few : l.bits < 2 ^ l.j;
}
