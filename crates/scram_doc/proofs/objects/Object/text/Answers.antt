use Rattle.std.proofs.Common.{rules}
use Rattle.scram_doc.proofs.objects.Object.text.Goals as goal

pub returns-in-Ok : goal.returns-in-Ok
returns-in-Ok c = search rules
