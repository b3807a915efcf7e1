use Rattle.std.proofs.Common.{rules, ◌≡◌}
use Rattle.std.specs.Prelude.{Ok}
use Rattle.scram_doc.specs.Lists.{AllAfter}
use Rattle.spec_reading.specs.Facts.{IsNewProc}
use Rattle.spec_reading.proofs.Distinct.{kept}
use Rattle.spec_reading.proofs.reading.read_names.Goals as goal

pub read_more_names-requires-clause-procs_fit : goal.read_more_names-requires-clause-procs_fit
read_more_names-requires-clause-procs_fit c =
    let read : c.read_procs.result ≡ Ok c.in_ok-procs.procs = search rules in
    kept (AllAfter IsNewProc) c.read_procs.result c.in_ok-procs.procs read c.read_procs.ensures.fits

pub returns-in_err-apps-clause-cycle : goal.returns-in_err-apps-clause-cycle
returns-in_err-apps-clause-cycle c = search rules

pub returns-in_err-apps-clause-value : goal.returns-in_err-apps-clause-value
returns-in_err-apps-clause-value c = search rules
