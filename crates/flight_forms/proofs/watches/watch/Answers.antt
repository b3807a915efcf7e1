use Rattle.form_base.proofs.Endings.{found_ends, refusal_ends}
use Rattle.flight_forms.specs.Texts.{watch_text}
use Rattle.flight_forms.proofs.watches.watch.Goals as goal

pub returns-in-Ok : goal.returns-in-Ok
returns-in-Ok g c = found_ends _ _ _ _ _ _ _ _ (c.in-Ok.ensures watch_text) c.watch_mission-status.ensures

pub returns-in-Err : goal.returns-in-Err
returns-in-Err g c = refusal_ends _ _ _ _ _ _ _ _ _ (c.in-Err.ensures watch_text) c.print_refusal.ensures
