use Rattle.scram_types.specs.Searches.{listed_below}
use Rattle.bank_words.specs.declared.events.Event.TheVariants.{KStore}
use Rattle.schedule_replay.specs.Turns.{Adds}
use Rattle.schedule_replay.proofs.turns.add_kernel_stores.Given as goal

abbrev pub invariant-loop-i : goal.invariant-loop-i
invariant-loop-i l = Adds l.initial.list.items l.list.items (listed_below KStore l.i)
