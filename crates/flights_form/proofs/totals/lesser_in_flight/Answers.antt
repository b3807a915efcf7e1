use Rattle.std.proofs.Common.{rules}
use Rattle.flights_form.proofs.totals.lesser_in_flight.Goals as goal

pub returns-then-later-margin : goal.returns-then-later-margin
returns-then-later-margin c = search rules
