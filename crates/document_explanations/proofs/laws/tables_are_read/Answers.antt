use Rattle.document_explanations.proofs.TablesRead.{tables_are_read}
use Rattle.document_explanations.proofs.laws.tables_are_read.Goals as goal

pub returns : goal.returns
returns c = tables_are_read
