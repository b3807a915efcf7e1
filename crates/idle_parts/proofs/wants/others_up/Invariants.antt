use Rattle.std.proofs.Common.{◌≡◌, ◌<◌, ◌^◌}
use Rattle.std.specs.Prelude.{not}
use Rattle.scram_types.specs.Bits.{bits_below, has_bit}
use Rattle.idle_parts.proofs.wants.others_up.Given as goal

abbrev pub invariant-loop-p : goal.invariant-loop-p
invariant-loop-p l = record {
  up : l.up ≡ bits_below (λ p. not (has_bit l.down p)) l.p;
  few : l.up < 2 ^ l.p;
}
