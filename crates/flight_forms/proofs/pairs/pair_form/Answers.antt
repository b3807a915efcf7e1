use Rattle.form_base.proofs.Endings.{found_ends, refusal_ends}
use Rattle.flight_forms.specs.declared.runs.FlightText.TheVariants.{Trace}
use Rattle.flight_forms.specs.Texts.{flight_text}
use Rattle.flight_forms.proofs.pairs.pair_form.Goals as goal

pub returns-in-Ok : goal.returns-in-Ok
returns-in-Ok g c = found_ends _ _ _ _ _ _ _ _ (c.in-Ok.ensures (flight_text Trace)) c.fly_pair-status.ensures

pub returns-in-Err : goal.returns-in-Err
returns-in-Err g c = refusal_ends _ _ _ _ _ _ _ _ _ (c.in-Err.ensures (flight_text Trace)) c.print_refusal.ensures
