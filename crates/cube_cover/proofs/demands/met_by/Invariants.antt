use Rattle.std.proofs.Common.{◌≡◌, ◌<◌, ◌^◌}
use Rattle.scram_types.specs.Bits.{bits_below}
use Rattle.scram_types.specs.Lookups.{conf_id}
use Rattle.choice_table.specs.Demands.{is_met}
use Rattle.cube_cover.proofs.demands.met_by.Given as goal

abbrev pub invariant-loop-c : goal.invariant-loop-c
invariant-loop-c l = record {
  bits : l.bits ≡ bits_below (λ c. is_met l.spec l.demand (conf_id c)) l.c;
  few : l.bits < 2 ^ l.c;
}
