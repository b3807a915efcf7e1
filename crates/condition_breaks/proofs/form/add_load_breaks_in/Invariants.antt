use Rattle.std.proofs.Common.{◌≡◌, ◌++◌}
use Rattle.condition_breaks.specs.Breaks.{load_break}
use Rattle.condition_breaks.specs.Lists.{gathered_below}
use Rattle.condition_breaks.proofs.form.add_load_breaks_in.Given as goal

abbrev pub invariant-loop-p : goal.invariant-loop-p
invariant-loop-p l = l.breaks.items ≡ l.initial.breaks.items ++ gathered_below (load_break l.spec l.c) l.p
