use Rattle.coverage_check.proofs.Reaching.{cover_members, cover_set}
use Rattle.coverage_check.proofs.target_sets.targets.Goals as goal

pub returns-clause-set : goal.returns-clause-set
returns-clause-set c = cover_set c.args.spec.now c.count_confs-known.ensures.known c.args.i c.in_ok-found.found c.in_ok-found.ensures

pub returns-clause-members : goal.returns-clause-members
returns-clause-members c = cover_members c.args.spec.now c.count_confs-known.ensures.known c.args.i c.in_ok-found.found c.in_ok-found.ensures
