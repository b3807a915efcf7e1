use Rattle.std.proofs.Common.{rules}
use Rattle.flight_facts.proofs.gaps.longer.Goals as goal

pub returns-then-gap-later : goal.returns-then-gap-later
returns-then-gap-later c = search rules
