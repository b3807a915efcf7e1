use Rattle.picture_form.proofs.FlightsDrawn.{flights_drawn}
use Rattle.picture_form.proofs.laws.flights_are_drawn.Goals as goal

pub returns : goal.returns
returns c = flights_drawn
