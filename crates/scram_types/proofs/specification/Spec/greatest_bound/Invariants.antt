use Rattle.std.proofs.Common.{◌≡◌, drop}
use Rattle.scram_types.specs.Specification.{greatest_bound_from, greatest_bound_in}
use Rattle.scram_types.proofs.specification.Spec.greatest_bound.Given as goal

abbrev pub invariant-loop-bound : goal.invariant-loop-bound
invariant-loop-bound l =
    greatest_bound_from l.greatest (drop l.bound-index l.bound-items) l.from.0
    ≡ greatest_bound_in l.self.bounds l.from.0
