use Rattle.event_core.proofs.Following.{fly_first}
use Rattle.schedule_replay.proofs.replays.replay.Goals as goal

pub fly-requires-clause-fits : goal.fly-requires-clause-fits
fly-requires-clause-fits g c =
    fly_first c.in_ok-core.core c.in_ok-flyers.flyers c.in_ok-core.ensures.places (c.in_ok-flyers.ensures.fits c.in_ok-core.core.spec c.in_ok-core.core.script)
