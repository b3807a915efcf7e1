use Rattle.schedule_replay.proofs.Unique.{one_answer}
use Rattle.schedule_replay.proofs.laws.a_list_has_one_answer.Goals as goal

pub returns : goal.returns
returns c = one_answer
