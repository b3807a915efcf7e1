use Rattle.std.proofs.Common.{rules}
use Rattle.flights_form.proofs.totals.count_refused.Goals as goal

pub returns-in-Refused-clause-value : goal.returns-in-Refused-clause-value
returns-in-Refused-clause-value c = search rules
