use Rattle.std.proofs.Common.{ℕ}
use Rattle.scram_types.specs.Lookups.{proc_id}
use Rattle.scram_types.specs.Searches.{listed_below}
use Rattle.bank_words.specs.declared.events.Event.TheVariants.{Store}
use Rattle.schedule_replay.specs.Turns.{Adds}
use Rattle.schedule_replay.proofs.turns.add_stores.Given as goal

abbrev pub invariant-loop-i : goal.invariant-loop-i
invariant-loop-i l = Adds l.initial.list.items l.list.items (listed_below (λ (i : ℕ). Store (proc_id l.p.0) i) l.i)
