use Rattle.std.proofs.Common.{rules}
use Rattle.idle_parts.proofs.places.is_in_mode.Goals as goal

pub returns-in-Some : goal.returns-in-Some
returns-in-Some c = search rules
