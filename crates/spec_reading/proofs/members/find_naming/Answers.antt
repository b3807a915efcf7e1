use Rattle.std.proofs.Common.{refl, ap, ◌∙◌}
use Rattle.std.specs.Prelude.{codes}
use Rattle.serde_json.specs.View.{view}
use Rattle.scram_doc.specs.Chain.{ok_map}
use Rattle.spec_reading.proofs.FourMembers.{Four, four_found, four_tested}
use Rattle.spec_reading.proofs.members.find_naming.Goals as goal

pub returns : goal.returns
returns c =
    let d = view c.args.document.now in
    let scram = rw (c.root-root.ensures) at c.in_ok-scram.ensures in
    let read = rw (c.root-root.ensures) at c.in_ok-procs.ensures in
    let found = four_found (codes "processors") (codes "apps") (codes "configurations") (codes "factors") d
    (view c.in_ok-procs.procs.now) (view c.in_ok-procs.apps.now) (view c.in_ok-procs.confs.now) (view c.in_ok-procs.factors.now) read in
    record {
      tested = rw (← scram)
          (ap (ok_map (λ (_ : Four). tt {0})) read ∙ four_tested (codes "processors") (codes "apps") (codes "configurations") (codes "factors") d);
      members = record { scram = rw (← scram) refl; procs = found.0; apps = found.1; confs = found.2; factors = found.3 };
    }
