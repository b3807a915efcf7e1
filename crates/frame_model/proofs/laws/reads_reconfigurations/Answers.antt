use Rattle.frame_model.proofs.ReadLaws.{reads}
use Rattle.frame_model.proofs.laws.reads_reconfigurations.Goals as goal

pub returns : goal.returns
returns c = reads
