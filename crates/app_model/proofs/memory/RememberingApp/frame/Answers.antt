use Rattle.std.proofs.Common.{rules}
use Rattle.app_model.proofs.memory.RememberingApp.frame.Goals as goal

pub of-requires : goal.of-requires
of-requires c = search rules
