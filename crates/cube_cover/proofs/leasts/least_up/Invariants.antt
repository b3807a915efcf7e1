use Rattle.std.proofs.Common.{◌≡◌, ◌<◌, ◌^◌}
use Rattle.scram_types.specs.Bits.{bits_below}
use Rattle.cube_cover.specs.Cubes.{may_be_up}
use Rattle.cube_cover.proofs.leasts.least_up.Given as goal

abbrev pub invariant-loop-p : goal.invariant-loop-p
invariant-loop-p l = record {
  up : l.up ≡ bits_below (may_be_up l.cube) l.p;
  few : l.up < 2 ^ l.p;
}
