use Rattle.choice_table.proofs.Members.{runs_where_up}
use Rattle.choice_table.proofs.laws.runs_where_places_are_up.Goals as goal

pub returns : goal.returns
returns c = runs_where_up
