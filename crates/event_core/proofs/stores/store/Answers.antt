use Rattle.std.proofs.Common.{rules}
use Rattle.event_core.proofs.stores.store.Goals as goal

pub returns-in-Flip : goal.returns-in-Flip
returns-in-Flip c = search rules
