use Rattle.std.proofs.Common.{◌≡◌, ap, arith}
use Rattle.coverage_check.specs.Timing.{greatest_bound}
use Rattle.scram_types.specs.Specification.{Parts}
use Rattle.fault_family.proofs.Counting.{greatest_within}
use Rattle.fault_family.proofs.scripts.greatest.Goals as goal

pub returns-clause-few : goal.returns-clause-few
returns-clause-few c =
    let few = greatest_within c.spec.inside.bounds 1000 (λ i bound there. (c.spec.invariant.bounds i bound there).most) in
    let same : greatest_bound c.spec.inside.bounds ≡ greatest_bound c.args.spec.now.bounds = ap (λ (s : Parts). greatest_bound s.bounds) c.spec.view_is in
    omega (arith, few, same, c.greatest_bound.ensures)
