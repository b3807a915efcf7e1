use Rattle.std.proofs.Common.{rules}
use Rattle.spec_reading.proofs.Placed.{one_more}
use Rattle.scram_doc.proofs.Growing.{step_made}
use Rattle.spec_reading.specs.Configurations.{read_place}
use Rattle.spec_reading.proofs.configurations.read_places.Goals as goal

pub loop-i-preserved : goal.loop-i-preserved
loop-i-preserved c = (
  step_made (read_place c.args.procs.now c.args.apps.now) c.args.at.now c.loop-i.i c.loop-i.places c.args.items.now c.index-items-i.result c.in_ok-places.places _ (search rules) (search rules) (search rules) c.loop-i.invariant.0,
  one_more c.args.procs.now c.args.apps.now c.loop-i.places c.in_ok-places.places c.loop-i.invariant.1 c.in_ok-places.ensures.fits,
)
