use Rattle.flight_forms.proofs.Assuring.{flights_assured}
use Rattle.flight_forms.proofs.laws.flights_are_assured.Goals as goal

pub returns : goal.returns
returns c = flights_assured c.reconfigurations_are_assured.ensures
