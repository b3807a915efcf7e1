-- A core as its callers see it, and its invariant.
use Rattle.std.specs.Prelude.{◌≡◌, ◌≢◌, ℕ, ◌+◌, ◌≤◌, Bool, false, List, length, Option, Some, nat_eq, nat_le, if◌then◌else◌}
use Rattle.scram_types.specs.Scripts.{ScriptParts}
use Rattle.scram_types.specs.Specification.{IsSpec, Parts}
use Rattle.bank_words.specs.declared.events.Event.{Event}
use Rattle.bank_words.specs.declared.events.Event.TheVariants.{Start, Look, Store, Flip, Done, Halt, KNote, KStore, Release}
use Rattle.fault_script.specs.Fits.{Fits}
use Rattle.scram_kernel.specs.Kernels.{KernelParts, kernel_after}
use Rattle.fail_stop.specs.Ends.{IsOver}
use Rattle.fail_stop.specs.Events.{Happens, IsNext, Places, Word, next_of_actor}
use Rattle.fail_stop.specs.Flights.{Flight}
use Rattle.fail_stop.specs.Listed.{stored_in, word_index_count}
use Rattle.fail_stop.specs.ScriptFlights.{flight_of}
use Rattle.event_core.specs.declared.places.Places.{Places as KeptPlaces}
use Rattle.event_core.specs.Places.{machine_places}
use Rattle.event_core.specs.Replays.{IsReplay}
use Rattle.event_core.specs.Rooms.{events_left}
use Rattle.event_core.specs.declared.cores.Illegal.{Illegal}
use Rattle.event_core.specs.Stores.{IsEventWord}

-- The parts of a core: its specification and its script, the places of all actors, the stored words, and the events so
-- far.
pub record CoreParts : Type 0 where
  pub spec : Parts
  pub script : ScriptParts
  pub places : KeptPlaces
  pub stored : List ℕ
  pub history : List Event

-- The parts of a core, given its specification, its script, its places, its words in one list, and its history.
abbrev pub core_of : Parts → ScriptParts → KeptPlaces → List ℕ → List Event → CoreParts
core_of spec script places stored history = record { spec = spec; script = script; places = places; stored = stored; history = history }

-- The flight of a core's specification and script, as a flight of the event machine.
abbrev pub core_flight : CoreParts → Flight
core_flight core = flight_of core.spec core.script

-- The places of all actors of a core.
abbrev pub core_places : CoreParts → Places
core_places core = machine_places core.places

-- The value of each word in a core.
abbrev pub core_words : CoreParts → Word → ℕ
core_words core = stored_in core.stored

-- The flight of a core is over.
abbrev pub IsOverIn : CoreParts → Type 0
IsOverIn core = IsOver (core_flight core) (core_places core)

-- The maximum number of events that can still come in a core.
abbrev pub events_left_in : CoreParts → ℕ
events_left_in core = events_left (core_flight core) (core_places core)

-- The event is the next event of its actor in the core.
abbrev pub IsNextIn : CoreParts → Event → Type 0
IsNextIn core event = IsNext (core_flight core) (core_places core) (core_words core) event

-- The next event of the actor of an event, or `None` if the actor has none.
abbrev pub next_event : CoreParts → Event → Option Event
next_event core event = next_of_actor (core_flight core) (core_places core) (core_words core) event

-- The word is a valid argument for the event in the core. If the event is a store, it is the word that the event
-- stores.
abbrev pub IsWordIn : CoreParts → Event → ℕ → Type 0
IsWordIn core event word = IsEventWord (core_flight core) (core_places core) event word

-- The event takes core `old` to core `new`.
abbrev pub HappensIn : CoreParts → Event → CoreParts → Type 0
HappensIn old event new = Happens (core_flight old) (core_places old) (core_words old) event (core_places new) (core_words new)

-- The event is not the next event of its actor. The error has the event and the actor's next event, or `None` if the
-- actor has no next event.
abbrev pub RefusesEvent : CoreParts → Event → Illegal → Type 0
RefusesEvent core event told = (next_event core event ≢ Some event) × (told.given ≡ event) × (told.next ≡ next_event core event)

-- The number of frames that have ended. The kernel's frame has ended once the kernel has noted all processors in it.
abbrev pub frames_ended : Parts → KeptPlaces → ℕ
frames_ended spec places = if nat_le (length spec.procs) places.step then places.frame + 1 else places.frame

-- Whether an event is the last note of a frame, which is the note of the last processor.
abbrev pub ends_frame : Parts → Event → Bool
ends_frame spec (KNote p) = nat_eq (p.0 + 1) (length spec.procs)
ends_frame spec (Start p) = false
ends_frame spec (Look p q) = false
ends_frame spec (Store p i) = false
ends_frame spec (Flip p) = false
ends_frame spec (Done p) = false
ends_frame spec (Halt p) = false
ends_frame spec (KStore i) = false
ends_frame spec Release = false

-- The invariant of a core's machine. The history is a schedule that leads to the places and the stored words. The
-- list of the history contains `count` events and has a capacity of `room` events. The list has space for every event
-- that can still come.
pub record MachineKeeps (spec : Parts) (script : ScriptParts) (places : KeptPlaces) (stored : List ℕ) (history : List Event) (room count : ℕ) : Type 0 where
  pub facts : IsSpec spec
  pub fits : Fits spec script
  pub long : length stored ≡ word_index_count
  pub replay : IsReplay (flight_of spec script) history (machine_places places) (stored_in stored)
  pub room_left : count + events_left (flight_of spec script) (machine_places places) ≤ room

-- The invariant of a core. `MachineKeeps` holds, and the kernel of the core is the kernel after the frames that have
-- ended.
pub record CoreKeeps (spec : Parts) (script : ScriptParts) (places : KeptPlaces) (stored : List ℕ) (history : List Event)
    (room count : ℕ) (kernel : KernelParts) : Type 0 where
  pub machine : MachineKeeps spec script places stored history room count
  pub kernel_is : kernel ≡ kernel_after spec script (frames_ended spec places)
