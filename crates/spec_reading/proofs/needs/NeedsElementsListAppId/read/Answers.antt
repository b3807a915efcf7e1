use Rattle.std.proofs.Common.{rules}
use Rattle.spec_reading.proofs.needs.NeedsElementsListAppId.read.Goals as goal

pub returns-clause-fits : goal.returns-clause-fits
returns-clause-fits c = rw (c.of.ensures) (record { few = search rules; each = c.in_ok-needs-2.ensures.fits })
