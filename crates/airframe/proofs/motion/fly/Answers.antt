use Rattle.std.proofs.Common.{sym, subst}
use Rattle.scram_types.specs.declared.rows.World.{World}
use Rattle.airframe.specs.Motion.{IsFlyable}
use Rattle.airframe.proofs.Flyable.{flyable}
use Rattle.airframe.proofs.motion.fly.Goals as goal

pub returns-clause-flyable : goal.returns-clause-flyable
returns-clause-flyable c = subst (λ (world : World). IsFlyable world) (sym c.next_world.ensures) (flyable c.args.motion.now)
