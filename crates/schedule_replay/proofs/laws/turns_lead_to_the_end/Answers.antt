use Rattle.schedule_replay.proofs.TurnsWhole.{turns_lead}
use Rattle.schedule_replay.proofs.laws.turns_lead_to_the_end.Goals as goal

pub returns : goal.returns
returns c = turns_lead
