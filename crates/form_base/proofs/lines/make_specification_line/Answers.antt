use Rattle.std.proofs.Common.{rules}
use Rattle.form_base.proofs.lines.make_specification_line.Goals as goal

pub returns : goal.returns
returns c = search rules
