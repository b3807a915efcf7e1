use Rattle.form_base.proofs.Endings.{found_ends, refusal_ends}
use Rattle.flights_form.proofs.forms.flights.Goals as goal

pub returns-in-Ok : goal.returns-in-Ok
returns-in-Ok g c = found_ends _ _ _ _ _ _ _ _ c.in-Ok.ensures.reads c.fly_series-status.ensures

pub returns-in-Err : goal.returns-in-Err
returns-in-Err g c = refusal_ends _ _ _ _ _ _ _ _ _ c.in-Err.ensures.reads c.print_refusal.ensures
