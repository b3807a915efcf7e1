use Rattle.std.proofs.Common.{rules}
use Rattle.scram_types.specs.Specification.{IsSpec}
use Rattle.schedule_replay.proofs.ScheduleBack.{written_back}
use Rattle.schedule_replay.proofs.schedule_writing.write_schedule.Goals as goal

pub returns-clause-back : goal.returns-clause-back
returns-clause-back c =
    let sound : IsSpec c.args.spec.now = search rules in
    written_back c.args.spec.now c.args.events.now c.write_lines.result sound c.requires c.write_lines.ensures
