use Rattle.form_base.proofs.Endings.{found_ends}
use Rattle.flight_forms.proofs.replays.replay_form.Goals as goal

pub returns-in-Ok : goal.returns-in-Ok
returns-in-Ok g c = found_ends _ _ _ _ _ _ _ _ c.in-Ok.ensures c.fly_replay-status.ensures
