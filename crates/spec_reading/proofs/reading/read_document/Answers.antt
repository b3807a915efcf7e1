use Rattle.std.proofs.Common.{◌≡◌, rules}
use Rattle.std.specs.Prelude.{Ok}
use Rattle.serde_json.specs.View.{view}
use Rattle.spec_reading.specs.Answers.{HasNoCycle}
use Rattle.spec_reading.specs.Versions.{members_tested}
use Rattle.spec_reading.specs.Documents.{unranked_names_in}
use Rattle.spec_reading.proofs.DocumentCycles.{shows_none}
use Rattle.spec_reading.proofs.reading.read_document.Goals as goal

pub returns-in_err-spec-clause-cycle : goal.returns-in_err-spec-clause-cycle
returns-in_err-spec-clause-cycle c =
    let tested : members_tested (view c.args.document.now) ≡ Ok tt = search rules in
    let none : HasNoCycle (unranked_names_in (view c.args.document.now)) = search rules in
    search (rules, shows_none (view c.args.document.now) c.in_err-spec.field-0.0 tested none)
