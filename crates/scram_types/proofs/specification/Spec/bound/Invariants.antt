use Rattle.std.proofs.Common.{◌≡◌, drop}
use Rattle.scram_types.specs.Specification.{bound_in}
use Rattle.scram_types.proofs.specification.Spec.bound.Given as goal

abbrev pub invariant-loop-bound : goal.invariant-loop-bound
invariant-loop-bound l =
    bound_in (drop l.bound-index l.bound-items) l.from.0 l.to.0 ≡ bound_in l.self.bounds l.from.0 l.to.0
