use Rattle.std.proofs.Common.{◌≡◌, add-one, arith, length, refl}
use Rattle.condition_breaks.proofs.ranges.all_ways.Goals as goal

pub loop-i-preserved : goal.loop-i-preserved
loop-i-preserved c = rw (c.in_ok-add_ways_from.ensures, c.loop-i.invariant, add-one) refl

pub returns : goal.returns
returns c =
    let whole : c.loop-i.i ≡ length c.args.spec.now.confs = omega (arith, c.count_confs-i-end.ensures.value) in
    rw (← whole) c.loop-i.invariant
