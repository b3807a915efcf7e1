use Rattle.std.proofs.Common.{◌≡◌}
use Rattle.scram_types.specs.Bits.{count_below}
use Rattle.cube_cover.specs.Sizes.{is_down_held}
use Rattle.cube_cover.proofs.sizes.count_sets_held.Given as goal

abbrev pub invariant-loop-down : goal.invariant-loop-down
invariant-loop-down l = l.sets ≡ count_below (is_down_held l.spec l.cube) l.down
