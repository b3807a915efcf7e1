use Rattle.std.proofs.Common.{◌≡◌, Bool, ap, arith, length, ◌++◌, ◌∙◌}
use Rattle.scram_types.specs.Lookups.{conf_id}
use Rattle.condition_breaks.specs.declared.breaks.Break.TheVariants as broken
use Rattle.condition_breaks.specs.Breaks.{bound_break}
use Rattle.condition_breaks.specs.Lists.{gathered_below, one_if}
use Rattle.condition_breaks.proofs.Gathering.{gathered_next}
use Rattle.condition_breaks.proofs.timing.add_bound_breaks_from.Goals as goal

pub loop-j-preserved : goal.loop-j-preserved
loop-j-preserved c =
    let place = broken.BoundLacking (conf_id c.args.i) (conf_id c.loop-j.j) in
    gathered_next (bound_break c.args.spec.now c.args.i) c.loop-j.j c.args.breaks.now.items c.loop-j.breaks.items c.push_if.new.breaks.items (one_if c.lacks_bound-lacks.result place)
    c.loop-j.invariant c.in_ok-push_if.ensures (ap (λ (lacks : Bool). one_if lacks place) c.lacks_bound-lacks.ensures)

pub returns : goal.returns
returns c =
    let last : c.loop-j.j ≡ length c.args.spec.now.confs = omega arith in
    c.loop-j.invariant ∙ ap (λ n. c.args.breaks.now.items ++ gathered_below (bound_break c.args.spec.now c.args.i) n) last
