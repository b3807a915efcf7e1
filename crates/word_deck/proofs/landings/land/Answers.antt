use Rattle.std.proofs.Common.{rules}
use Rattle.word_deck.proofs.landings.land.Goals as goal

pub crew_from-crew-requires-clause-opening : goal.crew_from-crew-requires-clause-opening
crew_from-crew-requires-clause-opening c = search rules
