use Rattle.std.proofs.Common.{rules}
use Rattle.scram_doc.proofs.Growing.{step_made}
use Rattle.spec_reading.specs.Demands.{read_on_app}
use Rattle.spec_reading.proofs.Placed.{one_more_on}
use Rattle.spec_reading.proofs.demands.read_modes_on.Goals as goal

pub loop-i-preserved : goal.loop-i-preserved
loop-i-preserved c = (
  step_made (read_on_app c.args.apps.now) c.args.at.now c.loop-i.i c.loop-i.on c.in_ok-items.items.now c.index-items-i.result c.in_ok-on.on _ (search rules) (search rules) (search rules) c.loop-i.invariant.0,
  one_more_on c.args.apps.now c.loop-i.on c.in_ok-on.on c.loop-i.invariant.1 c.in_ok-on.ensures.fits,
)
