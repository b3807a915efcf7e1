use Rattle.std.proofs.Common.{◌≡◌, ◌-◌, length}
use Rattle.std.specs.Prelude.{replicate}
use Rattle.cube_cover.specs.Sizes.{are_open}
use Rattle.cube_cover.proofs.sizes.are_zeros_open.Given as goal

abbrev pub invariant-loop-x : goal.invariant-loop-x
invariant-loop-x l = are_open l.cube l.x (replicate (6 - l.x) 0) ≡ are_open l.cube (length l.spec.factors) (replicate (6 - length l.spec.factors) 0)
