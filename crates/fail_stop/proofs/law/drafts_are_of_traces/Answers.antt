use Rattle.fail_stop.proofs.Drafting.{draft_same}
use Rattle.fail_stop.proofs.law.drafts_are_of_traces.Goals as goal

pub returns : goal.returns
returns c = λ spec script is f p snap there of. draft_same spec is script f snap of c.areas_are_kept.ensures p there
