use Rattle.std.proofs.Common.{arith}
use Rattle.lock_deck.proofs.Lists.{kept_same}
use Rattle.lock_deck.specs.Members.{MemberFits}
use Rattle.lock_deck.proofs.lock_flights.start_all.Goals as goal

pub start-requires-clause-fly : goal.start-requires-clause-fly
start-requires-clause-fly g c κs within = (c.requires.own, c.in-Some.ensures.fits c.args.flight.mission.now c.loop-member.invariant.waiting)

pub loop-member-preserved : goal.loop-member-preserved
loop-member-preserved g c =
    let fits = c.in-Some.ensures.fits c.args.flight.mission.now c.loop-member.invariant.waiting in
    record {
      waiting = c.in-Some.ensures.rest c.args.flight.mission.now c.loop-member.invariant.waiting;
      kept = c.keep_member.ensures.fits c.args.flight.mission.now (kept_same (MemberFits c.args.flight.mission.now) c.start.result c.in-Some.member c.start.ensures fits) c.loop-member.invariant.kept;
      room = omega (arith, c.in-Some.ensures.fewer, c.keep_member.ensures.more, c.keep_member.ensures.room, c.loop-member.invariant.room);
    }
