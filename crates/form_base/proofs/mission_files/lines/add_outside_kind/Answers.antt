use Rattle.std.proofs.Common.{rules}
use Rattle.form_base.proofs.mission_files.lines.add_outside_kind.Goals as goal

pub returns-in-Halts-clause-text : goal.returns-in-Halts-clause-text
returns-in-Halts-clause-text c = search rules
