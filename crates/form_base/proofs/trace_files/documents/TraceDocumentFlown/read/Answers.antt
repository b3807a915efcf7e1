use Rattle.form_base.proofs.trace_files.Counted.{counted}
use Rattle.form_base.proofs.trace_files.documents.TraceDocumentFlown.read.Goals as goal

pub returns-in-Ok-clause-reads : goal.returns-in-Ok-clause-reads
returns-in-Ok-clause-reads c =
    let few = counted c.args.self.now.spec.now c.args.bytes.now c.in-Ok.flown c.in-Ok.ensures.read in
    record { is = c.in-Ok.ensures.read; rows = few.0; reports = few.1 }
