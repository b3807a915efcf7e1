use Rattle.std.proofs.Common.{◌∙◌, ap, arith}
use Rattle.std.specs.Option.{option_to_list}
use Rattle.condition_breaks.specs.Breaks.{demand_break}
use Rattle.condition_breaks.proofs.Gathering.{gathered_next}
use Rattle.condition_breaks.proofs.Misses.{missed_is}
use Rattle.condition_breaks.proofs.demands.add_demand_breaks_in.Goals as goal

pub loop-k-preserved : goal.loop-k-preserved
loop-k-preserved c =
    let all = c.requires.found.all in
    let inside = c.loop-k-test.true in
    gathered_next (demand_break c.args.spec.now c.args.c) c.loop-k.k c.args.breaks.now.items c.loop-k.breaks.items c.push_found.new.breaks.items (option_to_list c.missed_at.result)
    c.loop-k.invariant c.in_ok-push_found.ensures
    (ap option_to_list c.missed_at.ensures ∙ missed_is c.args.spec.now c.requires.known c.args.c c.args.found.now c.requires.found c.loop-k.k (omega (arith, all, inside)))
