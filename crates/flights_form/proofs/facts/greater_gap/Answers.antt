use Rattle.std.proofs.Common.{rules}
use Rattle.flights_form.proofs.facts.greater_gap.Goals as goal

pub returns-then-gap-later : goal.returns-then-gap-later
returns-then-gap-later c = search rules
