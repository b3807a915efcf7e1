use Rattle.condition_breaks.proofs.BrokenPlaces.{each_is_broken}
use Rattle.condition_breaks.proofs.laws.each_is_broken.Goals as goal

pub returns : goal.returns
returns c = each_is_broken
