use Rattle.std.proofs.Common.{rules}
use Rattle.scram_kernel.proofs.images.image_next.Goals as goal

pub returns : goal.returns
returns c = search rules
