use Rattle.std.proofs.Common.{rules}
use Rattle.fail_stop.proofs.flyers.Flyer.start.Goals as goal

pub returns-in-Some : goal.returns-in-Some
returns-in-Some c = search rules
