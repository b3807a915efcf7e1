use Rattle.std.proofs.Common.{rules}
use Rattle.fail_stop.proofs.flyers.Flyer.halt.Goals as goal

pub returns-then-not-has_halted : goal.returns-then-not-has_halted
returns-then-not-has_halted c = search rules
