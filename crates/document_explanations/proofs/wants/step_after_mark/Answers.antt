use Rattle.std.proofs.Common.{rules}
use Rattle.document_explanations.proofs.wants.step_after_mark.Goals as goal

pub returns-in-Some : goal.returns-in-Some
returns-in-Some c = search rules
