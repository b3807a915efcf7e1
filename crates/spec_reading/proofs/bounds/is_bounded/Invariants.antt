use Rattle.std.proofs.Common.{◌≡◌, drop}
use Rattle.std.specs.Prelude.{is_some}
use Rattle.scram_types.specs.Specification.{bound_in}
use Rattle.spec_reading.proofs.bounds.is_bounded.Given as goal

abbrev pub invariant-loop-bound : goal.invariant-loop-bound
invariant-loop-bound l = is_some (bound_in (drop l.bound-index l.bounds) l.from.0 l.to.0) ≡ is_some (bound_in l.bounds l.from.0 l.to.0)
