use Rattle.std.proofs.Common.{rules, ◌≡◌}
use Rattle.std.specs.Prelude.{codes, Ok}
use Rattle.serde_json.specs.View.{view}
use Rattle.spec_reading.specs.Members.{member_in}
use Rattle.spec_reading.specs.Needs.{read_unranked}
use Rattle.spec_reading.specs.Unranked.{AreUnranked}
use Rattle.spec_reading.proofs.Cycles.{no_cycle}
use Rattle.spec_reading.proofs.Joined.{needs_in_range}
use Rattle.spec_reading.proofs.needs.read_apps.Goals as goal

pub rank-ranked-requires-clause-needs : goal.rank-ranked-requires-clause-needs
rank-ranked-requires-clause-needs c =
    let fits : AreUnranked c.in_ok-apps.apps = search rules in
    rw (c.items.ensures) (needs_in_range c.in_ok-apps.apps fits)

pub returns-clause-no_cycle : goal.returns-clause-no_cycle
returns-clause-no_cycle c =
    let read : member_in (codes "apps") read_unranked (view c.args.members.now.document.now) ≡ Ok c.in_ok-apps.apps = search rules in
    no_cycle c.finish_apps.result _ c.in_ok-apps.apps read c.finish_apps.ensures.no_cycle
