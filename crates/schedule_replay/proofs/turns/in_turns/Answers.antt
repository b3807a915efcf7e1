use Rattle.schedule_replay.proofs.TurnsKnown.{turns_are_known}
use Rattle.schedule_replay.proofs.turns.in_turns.Goals as goal

pub returns-clause-known : goal.returns-clause-known
returns-clause-known c = turns_are_known c.args.spec.now c.args.script.now c.add_frames.result c.add_frames.ensures
