use Rattle.std.proofs.Common.{rules}
use Rattle.flight_facts.proofs.decisions.add_cause.Goals as goal

pub returns-else-differ-clause-text : goal.returns-else-differ-clause-text
returns-else-differ-clause-text c = search rules
