use Rattle.std.proofs.Common.{rules}
use Rattle.picture_form.proofs.curves.crosses_north.Goals as goal

pub returns-in-Heading : goal.returns-in-Heading
returns-in-Heading c = search rules
