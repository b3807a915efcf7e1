use Rattle.event_core.proofs.Counting.{counted as law}
use Rattle.event_core.proofs.laws.histories_count_frames.Goals as goal

pub returns : goal.returns
returns c = law
