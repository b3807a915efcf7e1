use Rattle.std.proofs.Common.{rules}
use Rattle.form_base.proofs.trace_files.documents.TraceDocumentFlown.too_long.Goals as goal

pub returns-clause-is : goal.returns-clause-is
returns-clause-is c = search rules
