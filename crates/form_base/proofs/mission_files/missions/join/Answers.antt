use Rattle.std.proofs.Common.{rules}
use Rattle.form_base.proofs.mission_files.missions.join.Goals as goal

pub returns-in-Err : goal.returns-in-Err
returns-in-Err c = search rules
