use Rattle.std.proofs.Common.{refl}
use Rattle.condition_breaks.specs.Breaks.{invariant_break}
use Rattle.condition_breaks.proofs.Gathering.{gathered_next}
use Rattle.condition_breaks.proofs.holding.add_unheld.Goals as goal

pub loop-k-preserved : goal.loop-k-preserved
loop-k-preserved c =
    let items = invariant_break c.args.spec.now in
    gathered_next items c.loop-k.k c.args.breaks.now.items c.loop-k.breaks.items c.add_invariant_break.new.breaks.items (items c.loop-k.k)
    c.loop-k.invariant c.in_ok-add_invariant_break.ensures refl
