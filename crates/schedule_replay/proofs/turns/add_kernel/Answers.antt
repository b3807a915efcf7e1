use Rattle.std.proofs.Common.{ℕ, refl, subst}
use Rattle.bank_words.specs.declared.events.Event.TheVariants.{KNote}
use Rattle.fail_stop.specs.ScriptFlights.{flight_of}
use Rattle.scram_types.specs.Lookups.{proc_id}
use Rattle.scram_types.specs.Searches.{listed_below}
use Rattle.schedule_replay.specs.Turns.{Adds}
use Rattle.schedule_replay.proofs.Adding.{adds_then}
use Rattle.schedule_replay.proofs.turns.add_kernel.Goals as goal

pub returns : goal.returns
returns c =
    let noted = subst (λ n. Adds c.args.list.now.items c.add_notes.new.list.items (listed_below (λ (p : ℕ). KNote (proc_id p)) n)) c.count_procs.ensures.value c.in_ok-add_notes.ensures in
    adds_then c.add_releasing.result _ _ _ _ _ noted (c.add_releasing.ensures (flight_of c.args.spec.now c.args.script.now) refl)
