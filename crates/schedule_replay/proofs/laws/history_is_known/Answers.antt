use Rattle.std.proofs.Common.{subst}
use Rattle.scram_types.specs.Specification.{Parts}
use Rattle.event_core.specs.Cores.{core_places, core_words}
use Rattle.event_core.specs.Replays.{IsReplay}
use Rattle.fail_stop.specs.ScriptFlights.{flight_of}
use Rattle.schedule_replay.proofs.EventsKnown.{history_known}
use Rattle.schedule_replay.proofs.laws.history_is_known.Goals as goal

pub returns : goal.returns
returns c =
    let core = c.args.core.now in
    let replay = subst (λ (spec : Parts). IsReplay (flight_of spec core.script) core.history (core_places core) (core_words core)) c.requires c.history.ensures.schedule in
    history_known c.args.spec.now core.script core.history (core_places core) (core_words core) replay
