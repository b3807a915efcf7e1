use Rattle.std.proofs.Common.{ℕ}
use Rattle.scram_types.specs.Lookups.{proc_id}
use Rattle.scram_types.specs.Searches.{listed_below}
use Rattle.bank_words.specs.declared.events.Event.TheVariants.{KNote}
use Rattle.schedule_replay.specs.Turns.{Adds}
use Rattle.schedule_replay.proofs.turns.add_notes.Given as goal

abbrev pub invariant-loop-p : goal.invariant-loop-p
invariant-loop-p l = Adds l.initial.list.items l.list.items (listed_below (λ (p : ℕ). KNote (proc_id p)) l.p)
