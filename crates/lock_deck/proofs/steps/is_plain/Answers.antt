use Rattle.std.proofs.Common.{rules}
use Rattle.lock_deck.proofs.steps.is_plain.Goals as goal

pub returns-in-KStore : goal.returns-in-KStore
returns-in-KStore c = search rules
