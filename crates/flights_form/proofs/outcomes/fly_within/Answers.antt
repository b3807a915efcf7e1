use Rattle.std.proofs.Common.{rules}
use Rattle.flights_form.proofs.outcomes.fly_within.Goals as goal

pub returns-in-Err : goal.returns-in-Err
returns-in-Err c = search rules
