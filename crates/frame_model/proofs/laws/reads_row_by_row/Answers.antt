use Rattle.frame_model.proofs.ReadLaws.{row_by_row}
use Rattle.frame_model.proofs.laws.reads_row_by_row.Goals as goal

pub returns : goal.returns
returns c = row_by_row
