use Rattle.std.proofs.Common.{◌≡◌}
use Rattle.scram_types.specs.Bits.{count_below}
use Rattle.cube_cover.specs.Sizes.{is_open_digit}
use Rattle.cube_cover.proofs.sizes.count_open.Given as goal

abbrev pub invariant-loop-d : goal.invariant-loop-d
invariant-loop-d l = l.open ≡ count_below (is_open_digit l.cube l.x) l.d
