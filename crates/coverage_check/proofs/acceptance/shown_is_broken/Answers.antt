use Rattle.coverage_check.proofs.Breaking.{shown_is_broken}
use Rattle.coverage_check.proofs.acceptance.shown_is_broken.Goals as goal

pub returns : goal.returns
returns c = shown_is_broken
