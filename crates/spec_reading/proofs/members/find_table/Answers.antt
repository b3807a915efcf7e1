use Rattle.std.proofs.Common.{ap, ◌∙◌}
use Rattle.std.specs.Prelude.{codes}
use Rattle.serde_json.specs.View.{view}
use Rattle.scram_doc.specs.Chain.{ok_map}
use Rattle.spec_reading.proofs.FourMembers.{Four, four_found, four_tested}
use Rattle.spec_reading.proofs.members.find_table.Goals as goal

pub returns : goal.returns
returns c =
    let d = view c.args.document.now in
    let read = rw (c.root.ensures) at c.in_ok-rules.ensures in
    let found = four_found (codes "rules") (codes "bounds") (codes "start") (codes "goal") d
    (view c.in_ok-rules.rules.now) (view c.in_ok-rules.bounds.now) (view c.in_ok-rules.start.now) (view c.in_ok-rules.goal.now) read in
    record {
      tested = ap (ok_map (λ (_ : Four). tt {0})) read ∙ four_tested (codes "rules") (codes "bounds") (codes "start") (codes "goal") d;
      members = record { rules = found.0; bounds = found.1; start = found.2; goal = found.3 };
    }
