use Rattle.app_model.proofs.Tables.{tables_narrow}
use Rattle.app_model.proofs.laws.tables_narrow.Goals as goal

pub returns : goal.returns
returns c = tables_narrow
