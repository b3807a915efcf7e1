use Rattle.std.proofs.Common.{rules}
use Rattle.word_deck.proofs.crews.Crew.processor.Goals as goal

pub invariant_of-result : goal.invariant_of-result
invariant_of-result c = search rules
