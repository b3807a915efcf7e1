use Rattle.std.proofs.Common.{rules}
use Rattle.event_core.specs.Cores.{core_words}
use Rattle.event_core.proofs.Following.{fly_on}
use Rattle.test_schedules.proofs.ruled.make.Goals as goal

pub returns-clause-fits : goal.returns-clause-fits
returns-clause-fits g c =
    fly_on c.args.core.now c.step.new.core (core_words c.args.core.now) (core_words c.step.new.core) c.args.event c.word-word.new.self c.step.ensures.spec c.step.ensures.script
    c.step.ensures.happens c.word-word.ensures.fits

pub step-requires-clause-word : goal.step-requires-clause-word
step-requires-clause-word c = search rules
