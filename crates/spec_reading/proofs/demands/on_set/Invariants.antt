use Rattle.std.proofs.Common.{◌≡◌, ◌<◌, ◌^◌}
use Rattle.std.specs.Prelude.{is_some}
use Rattle.scram_types.specs.Bits.{bits_below}
use Rattle.spec_reading.specs.Configurations.{given}
use Rattle.spec_reading.proofs.demands.on_set.Given as goal

abbrev pub invariant-loop-a : goal.invariant-loop-a
invariant-loop-a l = record {
  bits : l.set ≡ bits_below (λ a. is_some (given l.on a)) l.a;
  few : l.set < 2 ^ l.a;
}
