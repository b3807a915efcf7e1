use Rattle.std.proofs.Common.{rules}
use Rattle.word_deck.proofs.frames.look_at_all.Goals as goal

pub loop-q-init : goal.loop-q-init
loop-q-init c = search rules
