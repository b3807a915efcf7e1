use Rattle.std.proofs.Common.{◌≡◌, take}
use Rattle.event_core.specs.Flyers.{FlyersFitCore}
use Rattle.schedule_replay.proofs.replays.fly.Given as goal

abbrev pub invariant-loop-event : goal.invariant-loop-event
invariant-loop-event g l = record {
  spec : l.core.spec ≡ l.fn.core.spec;
  script : l.core.script ≡ l.fn.core.script;
  history : l.core.history ≡ take l.event-index l.events;
  fits : FlyersFitCore l.core l.flyers;
}
