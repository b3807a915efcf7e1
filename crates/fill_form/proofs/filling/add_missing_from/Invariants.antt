use Rattle.std.proofs.Common.{◌≡◌, ◌++◌}
use Rattle.fill_form.specs.Filling.{bounds_below, missing_bound}
use Rattle.fill_form.proofs.filling.add_missing_from.Given as goal

abbrev pub invariant-loop-j : goal.invariant-loop-j
invariant-loop-j l = l.bounds.items ≡ l.initial.bounds.items ++ bounds_below (missing_bound l.spec l.from.0) l.j
