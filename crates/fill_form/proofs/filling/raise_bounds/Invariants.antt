use Rattle.std.proofs.Common.{◌≡◌, ◌++◌, map, drop}
use Rattle.fill_form.specs.Filling.{raised}
use Rattle.fill_form.proofs.filling.raise_bounds.Given as goal

abbrev pub invariant-loop-bound : goal.invariant-loop-bound
invariant-loop-bound l = l.bounds.items ++ map (raised l.spec) (drop l.bound-index l.spec.bounds) ≡ map (raised l.spec) l.spec.bounds
