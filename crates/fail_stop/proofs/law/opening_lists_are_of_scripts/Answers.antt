use Rattle.fail_stop.proofs.OpeningLists.{list_opens}
use Rattle.fail_stop.proofs.law.opening_lists_are_of_scripts.Goals as goal

pub returns : goal.returns
returns c = list_opens
