use Rattle.std.proofs.Common.{rules}
use Rattle.racks.proofs.making.rack_of.Goals as goal

pub returns : goal.returns
returns c = search rules
