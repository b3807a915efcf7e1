use Rattle.std.proofs.Common.{◌≡◌, ◌*◌, ◌^◌, ◌≤◌, drop}
use Rattle.cube_cover.specs.Sizes.{open_ways}
use Rattle.cube_cover.proofs.sizes.count_combinations.Given as goal

abbrev pub invariant-loop-x : goal.invariant-loop-x
invariant-loop-x l = record {
  ways : l.product * open_ways l.cube l.x (drop l.x l.spec.factors) ≡ open_ways l.cube 0 l.spec.factors;
  few : l.product ≤ 4 ^ l.x;
}
