use Rattle.std.proofs.Common.{rules}
use Rattle.std.specs.Prelude.{codes}
use Rattle.serde_json.specs.View.{view}
use Rattle.spec_reading.specs.Intervals.{read_preconditions}
use Rattle.spec_reading.proofs.Tested.{read_member}
use Rattle.spec_reading.proofs.intervals.read_preconditions.Goals as goal

pub returns-clause-value : goal.returns-clause-value
returns-clause-value c =
    let members = c.args.members.now in
    read_member (codes "preconditions") (read_preconditions c.args.vocabulary.now.apps c.args.vocabulary.now.confs) _ (view members.document.now) (view members.preconditions.now)
    c.read_list.result c.requires.members.preconditions (search rules)
