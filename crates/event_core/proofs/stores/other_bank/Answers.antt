use Rattle.std.proofs.Common.{rules}
use Rattle.event_core.proofs.stores.other_bank.Goals as goal

pub returns-clause-bank : goal.returns-clause-bank
returns-clause-bank c = search rules
