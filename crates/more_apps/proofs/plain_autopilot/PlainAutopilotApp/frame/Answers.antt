use Rattle.std.proofs.Common.{rules}
use Rattle.more_apps.proofs.plain_autopilot.PlainAutopilotApp.frame.Goals as goal

pub returns-clause-answer : goal.returns-clause-answer
returns-clause-answer c = search rules
