use Rattle.std.proofs.Common.{ℕ}
use Rattle.scram_types.specs.Lookups.{proc_id}
use Rattle.scram_types.specs.Searches.{listed_below}
use Rattle.bank_words.specs.declared.events.Event.TheVariants.{Look}
use Rattle.schedule_replay.specs.Turns.{Adds}
use Rattle.schedule_replay.proofs.turns.add_looks.Given as goal

abbrev pub invariant-loop-q : goal.invariant-loop-q
invariant-loop-q l = Adds l.initial.list.items l.list.items (listed_below (λ (q : ℕ). Look (proc_id l.p.0) (proc_id q)) l.q)
