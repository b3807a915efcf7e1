use Rattle.kind_table.proofs.Spelling.{all_names_agree}
use Rattle.kind_table.proofs.names.names_agree.Goals as goal

pub returns : goal.returns
returns c = all_names_agree
