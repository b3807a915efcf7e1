use Rattle.std.proofs.Common.{◌≡◌}
use Rattle.word_table.specs.Tables.{proc_of}
use Rattle.word_deck.specs.Crews.{IsCrewOf}
use Rattle.word_deck.proofs.landings.fly_crew.Given as goal

abbrev pub invariant-loop : goal.invariant-loop
invariant-loop g l =
    (goal.iterator-loop g).can_next l.iterator' × (goal.iterator-loop g).is_finite l.iterator'
    × IsCrewOf l.words l.crew × (proc_of l.crew.seat ≡ proc_of l.fn.crew.seat)
