use Rattle.std.proofs.Common.{rules}
use Rattle.document_explanations.proofs.rules.own_rules.Goals as goal

pub returns-in-Specification : goal.returns-in-Specification
returns-in-Specification c = search rules
