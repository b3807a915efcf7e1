use Rattle.std.proofs.Common.{◌≡◌, ◌+◌, ◌<◌, ◌≤◌, ◌∙◌, arith, length-set}
use Rattle.std.specs.Prelude.{Some, slice_set}
use Rattle.dep_order.specs.Ranking.{IsReady}
use Rattle.dep_order.proofs.Assigned.{count_none, none_given, none_most, ready_room, small_step, sound_step}
use Rattle.dep_order.proofs.ranks.ranks_of_unbound.Goals as goal

found : (c : goal.In-Some) → IsReady c.args.apps.now c.loop-a.ranks c.in-Some.a c.in-Some.rank
found c = c.in-Some.ensures.ready

pub loop-a-smaller : goal.loop-a-smaller
loop-a-smaller c =
    let fewer : count_none (slice_set c.loop-a.ranks c.in-Some.a (Some c.in-Some.rank)) + 1 ≡ count_none c.loop-a.ranks =
    none_given c.loop-a.ranks c.in-Some.a c.in-Some.rank (found c).unranked in
    let less : count_none (slice_set c.loop-a.ranks c.in-Some.a (Some c.in-Some.rank)) < count_none c.loop-a.ranks = omega arith in
    less

pub loop-a-preserved : goal.loop-a-preserved
loop-a-preserved c =
    let width = c.loop-a.invariant.width in
    let most = none_most c.loop-a.ranks in
    let room : c.in-Some.rank + count_none c.loop-a.ranks ≤ 8 =
    ready_room c.loop-a.ranks (count_none c.loop-a.ranks) c.loop-a.invariant.small (found c).app.needs c.in-Some.rank 0 (omega arith) (found c).rank in
    record {
      width = length-set c.loop-a.ranks c.in-Some.a (Some c.in-Some.rank) ∙ width;
      sound = sound_step c.loop-a.ranks c.in-Some.a c.in-Some.rank (found c).unranked c.args.apps.now (found c).app (found c).there (found c).rank c.loop-a.invariant.sound;
      small = small_step c.loop-a.ranks c.in-Some.a c.in-Some.rank (found c).unranked room c.loop-a.invariant.small;
    }
