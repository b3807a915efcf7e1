use Rattle.app_model.proofs.AreaLaws.{law_lies_during}
use Rattle.app_model.proofs.laws.law_lies_during.Goals as goal

pub returns : goal.returns
returns c = law_lies_during
