use Rattle.more_apps.proofs.CountLaws.{keeps_count}
use Rattle.more_apps.proofs.data_link.data_link_keeps_count.Goals as goal

pub returns : goal.returns
returns c = keeps_count
