use Rattle.std.proofs.Common.{rules}
use Rattle.document_explanations.proofs.objects.known_members.Goals as goal

pub returns-in-Mode : goal.returns-in-Mode
returns-in-Mode c = search rules
