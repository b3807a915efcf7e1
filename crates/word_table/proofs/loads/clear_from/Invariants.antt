use Rattle.word_table.specs.Reading.{AreCleared}
use Rattle.word_table.proofs.loads.clear_from.Given as goal

abbrev pub invariant-loop-i : goal.invariant-loop-i
invariant-loop-i l = record { cleared : AreCleared l.from l.i l.fn.image l.image }
