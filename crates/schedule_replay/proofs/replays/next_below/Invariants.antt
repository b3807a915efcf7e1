use Rattle.std.proofs.Common.{◌≡◌}
use Rattle.std.specs.Prelude.{None}
use Rattle.event_core.specs.Cores.{core_places, core_words, core_flight}
use Rattle.schedule_replay.specs.Replaying.{next_below}
use Rattle.schedule_replay.proofs.replays.next_below.Given as goal

abbrev pub invariant-loop-p : goal.invariant-loop-p
invariant-loop-p l = next_below (core_flight l.core) (core_places l.core) (core_words l.core) l.p ≡ None
