use Rattle.app_model.proofs.AreaLaws.{start_lies_after_init}
use Rattle.app_model.proofs.laws.start_lies_after_init.Goals as goal

pub returns : goal.returns
returns c = start_lies_after_init
