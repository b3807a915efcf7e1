use Rattle.std.proofs.Common.{◌≡◌}
use Rattle.event_core.specs.Cores.{core_places, core_words, core_flight}
use Rattle.event_core.specs.Rooms.{events_left}
use Rattle.event_core.specs.Flyers.{FlyersFitCore}
use Rattle.test_schedules.proofs.Ruling.{IsRuledTo}
use Rattle.test_schedules.proofs.ruled.fly_on.Given as goal

abbrev pub invariant-loop-event : goal.invariant-loop-event
invariant-loop-event g l = record {
  spec : l.core.spec ≡ l.fn.core.spec;
  script : l.core.script ≡ l.fn.core.script;
  ruled : IsRuledTo (core_flight l.core) l.fn.rule l.chooser l.core.history (core_places l.core) (core_words l.core);
  fits : FlyersFitCore l.core l.flyers;
}

abbrev pub decreases-loop-event : goal.decreases-loop-event
decreases-loop-event g l = events_left (core_flight l.core) (core_places l.core)
