use Rattle.scram_types.proofs.Items.{each_end}
use Rattle.std.proofs.Common.{◌≡◌, arith, rules, sym}
use Rattle.std.specs.Prelude.{◌++◌, ◌∷◌, []}
use Rattle.schedule_replay.specs.Events.{HasEvent}
use Rattle.schedule_replay.proofs.Walk.{refused, taken}
use Rattle.schedule_replay.proofs.schedule_reading.read_schedule.Goals as goal

pub returns-in-Err-clause-read : goal.returns-in-Err-clause-read
returns-in-Err-clause-read c =
    rw c.schedule_fault-in-Err.ensures
    (refused c.args.spec.now c.loop-text.line c.loop-text.list.items c.in-Some.text.now c.loop-text.rest.now c.in-Some.behind.now c.args.bytes.now c.in-Err.rule
    c.in-Some.ensures.pieces (sym c.in-Err.ensures.event) (omega arith) c.loop-text.invariant.rest)

pub loop-text-preserved : goal.loop-text-preserved
loop-text-preserved c =
    let items : c.push.new.self.items ≡ c.loop-text.list.items ++ c.in-Ok.event ∷ [] = search rules in
    record {
      rest = rw items (taken c.args.spec.now c.loop-text.line c.loop-text.list.items c.in-Some.text.now c.loop-text.rest.now c.in-Some.behind.now c.in-Ok.event _
          c.in-Some.ensures.pieces (sym c.in-Ok.ensures.event) c.loop-text.invariant.rest);
      known = rw items (each_end (HasEvent c.args.spec.now) c.loop-text.list.items c.in-Ok.event c.loop-text.invariant.known c.in-Ok.ensures.known);
      place = omega (arith, c.in-Some.ensures.shorter, c.loop-text.invariant.place);
    }

pub returns-else-is_empty-clause-read : goal.returns-else-is_empty-clause-read
returns-else-is_empty-clause-read c = search rules
