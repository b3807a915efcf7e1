-- The history of a core is a schedule, and the number of events in the history is bounded.
use Rattle.std.proofs.Common.{◌≡◌, ℕ, ◌+◌, ◌*◌, ◌<◌, ◌≤◌, subst, arith, List, [], ◌∷◌, length, refl}
use Rattle.std.specs.Prelude.{Some}
use Rattle.std.proofs.lemmas.Nat.{mul-le}
use Rattle.scram_types.specs.Scripts.{ScriptParts}
use Rattle.scram_types.specs.Specification.{IsSpec, Parts}
use Rattle.bank_words.specs.declared.events.Event.{Event}
use Rattle.fail_stop.specs.Events.{Places, Word}
use Rattle.fail_stop.specs.Flights.{Flies, Flight}
use Rattle.fail_stop.specs.Kept.{Kept, opening_places, opening_words}
use Rattle.fail_stop.specs.Listed.{Moves, stored_in}
use Rattle.fail_stop.specs.Schedules.{IsSchedule, Machine, happened, opening}
use Rattle.fail_stop.specs.ScriptFlights.{flight_of}
use Rattle.fail_stop.proofs.EachState.{happens_so}
use Rattle.fail_stop.proofs.Keeps.{keeps, opens}
use Rattle.fail_stop.proofs.ScriptBorder.{restarts_within, script_flies}
use Rattle.fault_script.specs.Fits.{Fits}
use Rattle.event_core.specs.declared.places.Places.{Places as KeptPlaces}
use Rattle.event_core.specs.Cores.{CoreParts, core_of, core_places, core_words, core_flight}
use Rattle.event_core.specs.Places.{machine_places}
use Rattle.event_core.specs.Replays.{IsReplay}
use Rattle.event_core.specs.Rooms.{events_a_frame, events_left}
use Rattle.event_core.proofs.Fewer.{fewer, first_flies}
use Rattle.event_core.proofs.Opens.{all_events}

-- If the history of a core's parts is a schedule, then so is the history of the core.
pub replayed_by : (core : CoreParts) (spec : Parts) (script : ScriptParts) (places : KeptPlaces) (stored : List ℕ) (history : List Event) → core_of spec script places stored history ≡ core
    → IsReplay (flight_of spec script) history (machine_places places) (stored_in stored) → IsReplay (core_flight core) core.history (core_places core) (core_words core)
replayed_by core spec script places stored history is r = subst (λ (core : CoreParts). IsReplay (core_flight core) core.history (core_places core) (core_words core)) is r

-- Each event of a schedule reduces the number of events left by at least one.
module _ (m : Flight) (flies : Flies m) (within : (p r : ℕ) → m.restart p ≡ Some r → r < m.frames) (flying : 0 < m.frames) where
  longer : (s : Machine) (es : List Event) (t : Machine) → Kept m s.at s.words → IsSchedule m s es t → length es + events_left m t.at ≤ events_left m s.at
  longer s [] t kept is = rw is (omega arith)
  longer s (e ∷ es) t kept is =
      let moves : Moves m s.at e (happened m s e).at = record { proc = λ q. refl; frame = refl; step = refl } in
      let less = fewer m s.at s.words flies kept within flying (happened m s e).at e is.0 moves in
      let more = longer (happened m s e) es t (keeps m s.at s.words (happened m s e).at (happened m s e).words flies kept e is.0 (happens_so m s e)) is.1 in
      omega (arith, less, more)

most_events : (m : Flight) → m.frames ≤ 20000 → m.procs ≤ 8 → m.width ≤ 64 → events_left m opening_places ≤ 12580000
most_events m frames procs width =
    let of_procs = mul-le m.procs (events_a_frame m) 8 75 procs (omega (arith, procs, width)) in
    let all = mul-le m.frames (m.procs * events_a_frame m + (m.procs + 21)) 20000 629 frames (omega (arith, of_procs, procs)) in
    rw (all_events m) (omega (arith, all))

few : (spec : Parts) (script : ScriptParts) (es : List Event) (t : Machine) → IsSpec spec → Fits spec script → IsSchedule (flight_of spec script) (opening (flight_of spec script)) es t → length es ≤ 12580000
few spec script [] t sound fits is = omega arith
few spec script (e ∷ es) t sound fits is =
    let m = flight_of spec script in
    let flies = script_flies spec script fits in
    let procs = sound.procs_count.few in
    let apps = sound.apps_count.few in
    let most = most_events m fits.frames procs (omega (arith, apps)) in
    let long = longer m flies (λ p r is. restarts_within spec script fits p r is) (first_flies m (opening_words m) e is.0) (opening m) (e ∷ es) t (opens m flies) is in
    omega (arith, most, long)

pub history_few : (spec : Parts) (script : ScriptParts) (events : List Event) (at : Places) (words : Word → ℕ) → IsSpec spec → Fits spec script → IsReplay (flight_of spec script) events at words → length events ≤ 12580000
history_few spec script events at words sound fits r = few spec script events r.state sound fits r.schedule
