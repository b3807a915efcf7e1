-- Lemmas on the core after one event.
use Rattle.std.proofs.Common.{◌≡◌, ◌∙◌, ℕ, ◌+◌, ◌*◌, ◌<◌, ◌≤◌, refl, ap, sym, subst, arith, List, [], ◌∷◌, ◌++◌, length}
use Rattle.std.specs.Prelude.{Option, Some, None}
use Rattle.std.proofs.lemmas.Grind.{common_steps}
use Rattle.bank_words.specs.declared.events.Event.{Event}
use Rattle.scram_types.specs.Scripts.{ScriptParts}
use Rattle.scram_types.specs.Specification.{Parts}
use Rattle.fail_stop.specs.Events.{Happens, IsNext, Places, Word, places_after, writes}
use Rattle.fail_stop.specs.Flights.{Flies}
use Rattle.fail_stop.specs.Kept.{Kept}
use Rattle.fail_stop.specs.Listed.{Moves, list_after, stored_in}
use Rattle.fail_stop.specs.ScriptFlights.{flight_of}
use Rattle.fail_stop.proofs.ListLaw.{list_written, target}
use Rattle.fail_stop.proofs.ScriptBorder.{restarts_within, script_flies}
use Rattle.event_core.specs.declared.places.Places.{Places as KeptPlaces}
use Rattle.event_core.specs.Cores.{MachineKeeps, CoreParts, core_of, core_flight, core_places, core_words, next_event}
use Rattle.event_core.specs.Places.{machine_places}
use Rattle.event_core.specs.Replays.{IsReplay}
use Rattle.event_core.specs.Rooms.{events_left}
use Rattle.event_core.specs.Stores.{CanMove, IsInside}
use Rattle.event_core.proofs.Bounds.{can_move, inside}
use Rattle.event_core.proofs.Fewer.{fewer, has_frames}
use Rattle.event_core.proofs.Replays.{next_there, replay_kept, replay_more}

long_after : (list : List ℕ) (o : Option (Word × ℕ)) → length (list_after list o) ≡ length list
long_after list None = refl
long_after list (Some t) = grind (arith, common_steps)

module _ (spec : Parts) (script : ScriptParts) (places : KeptPlaces) (stored : List ℕ) (history : List Event) (room count : ℕ) (k : MachineKeeps spec script places stored history room count)
    (e : Event) (next : IsNext (flight_of spec script) (machine_places places) (stored_in stored) e) where
  flies : Flies (flight_of spec script)
  flies = script_flies spec script k.fits

  kept : Kept (flight_of spec script) (machine_places places) (stored_in stored)
  kept = replay_kept (flight_of spec script) history (machine_places places) (stored_in stored) flies k.replay

  flying : 0 < script.frames
  flying = has_frames (flight_of spec script) history k.replay.state e k.replay.schedule (next_there (flight_of spec script) history (machine_places places) (stored_in stored) e k.replay next)

  few : length spec.procs ≤ 8
  few = k.facts.procs_count.few

  narrow : 8 * length spec.apps ≤ 64
  narrow = let most = k.facts.apps_count.few in omega (arith, most)

  -- Since some actor has a next event, the kernel is in a frame of the flight.
  pub low : places.frame < script.frames
  low = kept.kernel.below flying

  pub is_inside : IsInside e
  is_inside = inside (flight_of spec script) (machine_places places) (stored_in stored) few narrow e next

  pub moves_on : CanMove places e
  moves_on =
      let below = kept.kernel.below flying in
      can_move (flight_of spec script) places (stored_in stored) few narrow flies kept (omega (arith, below, k.fits.frames)) e next

  pub less : (at2 : Places) → Moves (flight_of spec script) (machine_places places) e at2 → events_left (flight_of spec script) at2 < events_left (flight_of spec script) (machine_places places)
  less at2 moves = fewer (flight_of spec script) (machine_places places) (stored_in stored) flies kept (λ p r is. restarts_within spec script k.fits p r is) flying at2 e next moves

  pub has_room : count < room
  has_room =
      let left = less (places_after (flight_of spec script) (machine_places places) e) (record { proc = λ q. refl; frame = refl; step = refl }) in
      omega (arith, left, k.room_left)

  module _ (places2 : KeptPlaces) (stored2 : List ℕ) (moves : Moves (flight_of spec script) (machine_places places) e (machine_places places2))
      (is_stored : stored2 ≡ list_after stored (writes (flight_of spec script) (machine_places places) (stored_in stored) e)) where
    pub happens : Happens (flight_of spec script) (machine_places places) (stored_in stored) e (machine_places places2) (stored_in stored2)
    happens = record {
      proc = moves.proc;
      frame = moves.frame;
      step = moves.step;
      words_are = λ w s. ap (λ list. stored_in list w) is_stored
          ∙ list_written (flight_of spec script) stored (writes (flight_of spec script) (machine_places places) (stored_in stored) e) w
          (record { procs = few; width = narrow; long = k.long }) (target (flight_of spec script) (machine_places places) (stored_in stored) e next) s;
    }

    pub step_keeps : (history2 : List Event) (room2 count2 : ℕ) → history2 ≡ history ++ e ∷ [] → room2 ≡ room → count2 ≡ count + 1
        → MachineKeeps spec script places2 stored2 history2 room2 count2
    step_keeps history2 room2 count2 is_history is_room is_count =
        let left = less (machine_places places2) moves in record {
          facts = k.facts;
          fits = k.fits;
          long = ap length is_stored ∙ long_after stored (writes (flight_of spec script) (machine_places places) (stored_in stored) e) ∙ k.long;
          replay = subst (λ h. IsReplay (flight_of spec script) h (machine_places places2) (stored_in stored2)) (sym is_history)
              (replay_more (flight_of spec script) history (machine_places places) (machine_places places2) (stored_in stored) (stored_in stored2) e k.replay next moves happens.words_are);
          room_left = omega (arith, left, k.room_left, is_room, is_count);
        }

pub kept_of : {spec : Parts} {script : ScriptParts} {places : KeptPlaces} {stored : List ℕ} {history : List Event} {room count : ℕ} → MachineKeeps spec script places stored history room count
    → Kept (flight_of spec script) (machine_places places) (stored_in stored)
kept_of {spec} {script} {places} {stored} {history} k = replay_kept (flight_of spec script) history (machine_places places) (stored_in stored) (script_flies spec script k.fits) k.replay

-- If the next event of an event's actor in a core is that event, then it is so for the core's parts.
pub next_by : (core : CoreParts) (spec : Parts) (script : ScriptParts) (places : KeptPlaces) (stored : List ℕ) (history : List Event) (e : Event) (o : Option Event)
    → core_of spec script places stored history ≡ core → o ≡ next_event core e → o ≡ Some e → IsNext (flight_of spec script) (machine_places places) (stored_in stored) e
next_by core spec script places stored history e o is told same = ap (λ (core : CoreParts). next_event core e) is ∙ sym told ∙ same

-- If an event happens to the places and words of a core's parts, then it happens in the core.
pub happens_by : (core : CoreParts) (spec : Parts) (script : ScriptParts) (places : KeptPlaces) (stored : List ℕ) (history : List Event) (e : Event) (places2 : KeptPlaces) (stored2 : List ℕ)
    → core_of spec script places stored history ≡ core → Happens (flight_of spec script) (machine_places places) (stored_in stored) e (machine_places places2) (stored_in stored2)
    → Happens (core_flight core) (core_places core) (core_words core) e (machine_places places2) (stored_in stored2)
happens_by core spec script places stored history e places2 stored2 is h = subst (λ (core : CoreParts). Happens (core_flight core) (core_places core) (core_words core) e (machine_places places2) (stored_in stored2)) is h

pub fewer_by : (core : CoreParts) (spec : Parts) (script : ScriptParts) (places : KeptPlaces) (stored : List ℕ) (history : List Event) (places2 : KeptPlaces)
    → core_of spec script places stored history ≡ core → events_left (flight_of spec script) (machine_places places2) < events_left (flight_of spec script) (machine_places places)
    → events_left (flight_of spec script) (machine_places places2) < events_left (core_flight core) (core_places core)
fewer_by core spec script places stored history places2 is low =
    subst (λ (core : CoreParts). events_left (flight_of spec script) (machine_places places2) < events_left (core_flight core) (core_places core)) is low
