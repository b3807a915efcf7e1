use Rattle.std.proofs.Common.{rules}
use Rattle.picture_form.proofs.reconfigurations.rows_width.Goals as goal

pub overflow_add-last : goal.overflow_add-last
overflow_add-last c = search rules
