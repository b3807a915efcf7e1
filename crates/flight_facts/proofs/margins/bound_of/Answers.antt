use Rattle.std.proofs.Common.{rules}
use Rattle.flight_facts.proofs.margins.bound_of.Goals as goal

pub returns-in-Some : goal.returns-in-Some
returns-in-Some c = search rules
