use Rattle.std.specs.Prelude.{vec_len}
use Rattle.word_deck.proofs.scopes.+fly_rest.Given as goal

abbrev pub decreases-fly_rest : goal.decreases-fly_rest
decreases-fly_rest g l = vec_len l.roster.now.waiting
