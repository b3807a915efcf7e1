use Rattle.std.proofs.Common.{rules}
use Rattle.form_base.proofs.mission_files.lines.make_outside_line.Goals as goal

pub returns : goal.returns
returns c = search rules
