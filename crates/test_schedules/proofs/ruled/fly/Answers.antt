use Rattle.event_core.proofs.Following.{fly_first}
use Rattle.test_schedules.proofs.ruled.fly.Goals as goal

pub fly_on-requires-clause-fits : goal.fly_on-requires-clause-fits
fly_on-requires-clause-fits c =
    fly_first c.in_ok-core.core c.in_ok-flyers.flyers c.in_ok-core.ensures.places (c.in_ok-flyers.ensures.fits c.in_ok-core.core.spec c.in_ok-core.core.script)
