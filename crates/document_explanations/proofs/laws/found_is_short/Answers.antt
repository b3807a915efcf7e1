use Rattle.document_explanations.proofs.CharCounts.{short}
use Rattle.document_explanations.proofs.laws.found_is_short.Goals as goal

pub returns : goal.returns
returns c = short
