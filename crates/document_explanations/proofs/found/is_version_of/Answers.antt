use Rattle.std.proofs.Common.{rules}
use Rattle.document_explanations.proofs.found.is_version_of.Goals as goal

pub returns-in-Third : goal.returns-in-Third
returns-in-Third c = search rules
