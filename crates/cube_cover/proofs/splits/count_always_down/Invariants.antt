use Rattle.std.proofs.Common.{◌≡◌, ◌≤◌, not}
use Rattle.scram_types.specs.Bits.{count_below}
use Rattle.cube_cover.specs.Cubes.{may_be_up}
use Rattle.cube_cover.proofs.splits.count_always_down.Given as goal

abbrev pub invariant-loop-p : goal.invariant-loop-p
invariant-loop-p l = record {
  counted : l.down ≡ count_below (λ p. not (may_be_up l.cube p)) l.p;
  most : l.down ≤ l.p;
}
