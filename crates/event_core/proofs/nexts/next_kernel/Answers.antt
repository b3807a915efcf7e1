use Rattle.std.proofs.Common.{rules}
use Rattle.fail_stop.specs.Listed.{stored_in}
use Rattle.fail_stop.specs.ScriptFlights.{flight_of}
use Rattle.event_core.specs.Places.{machine_places}
use Rattle.event_core.proofs.Notes.{note_next}
use Rattle.event_core.proofs.nexts.next_kernel.Goals as goal

pub returns-then-places-procs : goal.returns-then-places-procs
returns-then-places-procs c =
    note_next (flight_of c.args.spec.now c.args.script.now) (machine_places c.args.places.now) (stored_in c.args.stored.now) _ _ _
    (search rules) (search rules) (search rules) c.end_in.ensures (c.next_note.ensures c.args.spec.now)

pub overflow_sub-result : goal.overflow_sub-result
overflow_sub-result c = search rules

pub returns-then-places-script-2 : goal.returns-then-places-script-2
returns-then-places-script-2 c = search rules
