use Rattle.coverage_check.proofs.Accepting.{accepts_iff_unrefused}
use Rattle.coverage_check.proofs.acceptance.accepts_iff_unrefused.Goals as goal

pub returns : goal.returns
returns c = accepts_iff_unrefused
