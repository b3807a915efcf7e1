use Rattle.flights_form.proofs.Assuring.{flights_assure}
use Rattle.flights_form.proofs.laws.series_are_assured.Goals as goal

pub returns : goal.returns
returns c = flights_assure c.reconfigurations_are_assured.ensures
