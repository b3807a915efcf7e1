use Rattle.std.proofs.Common.{refl}
use Rattle.fault_script.proofs.Walking.{walk_opens}
use Rattle.fault_script.proofs.walks.Walk.first.Goals as goal

pub returns : goal.returns
returns c = walk_opens c.args.spec.now c.args.script.now c.requires _ refl refl c.up_set_at.ensures refl
