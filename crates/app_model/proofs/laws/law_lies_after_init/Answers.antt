use Rattle.app_model.proofs.AreaLaws.{law_lies_after_init}
use Rattle.app_model.proofs.laws.law_lies_after_init.Goals as goal

pub returns : goal.returns
returns c = law_lies_after_init
