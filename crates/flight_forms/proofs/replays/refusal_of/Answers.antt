use Rattle.std.proofs.Common.{rules}
use Rattle.flight_forms.proofs.replays.refusal_of.Goals as goal

pub returns-in-Short : goal.returns-in-Short
returns-in-Short c = search rules
