use Rattle.std.proofs.Common.{◌≡◌, ◌<◌, ◌^◌, ◌/◌, ◌%◌}
use Rattle.scram_types.specs.Bits.{bits_below}
use Rattle.cube_cover.specs.Cubes.{is_digit}
use Rattle.cube_cover.proofs.cubes.whole.Given as goal

abbrev pub invariant-loop-n : goal.invariant-loop-n
invariant-loop-n l = record {
  bits : l.bits ≡ bits_below (λ n. is_digit l.spec (n / 4) (n % 4)) l.n;
  few : l.bits < 2 ^ l.n;
}
