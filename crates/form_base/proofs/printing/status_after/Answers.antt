use Rattle.std.proofs.Common.{rules}
use Rattle.form_base.proofs.printing.status_after.Goals as goal

pub returns-in-Err : goal.returns-in-Err
returns-in-Err c = search rules
