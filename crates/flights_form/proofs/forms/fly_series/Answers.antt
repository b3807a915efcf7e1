use Rattle.flights_form.proofs.Flown.{series_prints}
use Rattle.flights_form.proofs.forms.fly_series.Goals as goal

pub returns : goal.returns
returns g c =
    series_prints c.args.series.now.accepted c.args.series.now.scripts c.put_flights-put.result _ _ _ c.status_after.ensures
    (rw (c.spec.ensures, c.items.ensures) at c.put_flights-put.ensures)
