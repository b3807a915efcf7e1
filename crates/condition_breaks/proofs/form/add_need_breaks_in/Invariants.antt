use Rattle.std.proofs.Common.{◌≡◌, ◌++◌}
use Rattle.condition_breaks.specs.Breaks.{need_breaks_of}
use Rattle.condition_breaks.specs.Lists.{gathered_below}
use Rattle.condition_breaks.proofs.form.add_need_breaks_in.Given as goal

abbrev pub invariant-loop-a : goal.invariant-loop-a
invariant-loop-a l = l.breaks.items ≡ l.initial.breaks.items ++ gathered_below (need_breaks_of l.spec l.c) l.a
