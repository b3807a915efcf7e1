use Rattle.std.proofs.Common.{◌≡◌, ◌++◌}
use Rattle.fill_form.specs.Filling.{bounds_below, missing_from}
use Rattle.fill_form.proofs.filling.add_missing.Given as goal

abbrev pub invariant-loop-i : goal.invariant-loop-i
invariant-loop-i l = l.bounds.items ≡ l.initial.bounds.items ++ bounds_below (missing_from l.spec) l.i
