use Rattle.std.proofs.Common.{rules}
use Rattle.spec_reading.proofs.documents.check_version.Goals as goal

pub returns-else-version-ge1 : goal.returns-else-version-ge1
returns-else-version-ge1 c = search rules
