-- A pair with the list of its events, and the invariant of such a pair.
use Rattle.std.specs.Prelude.{◌≡◌, ℕ, ◌+◌, ◌++◌, ◌≤◌, [], ◌∷◌, suc, List, Option, Some, slice_index_or, length}
use Rattle.scram_types.specs.Scripts.{ScriptParts}
use Rattle.scram_types.specs.Specification.{IsSpec, Parts}
use Rattle.fault_script.specs.Fits.{Fits}
use Rattle.fault_script.specs.Times.{restart_of}
use Rattle.fail_stop.specs.Flights.{Flight, word_in}
use Rattle.fail_stop.specs.ScriptFlights.{flight_of}
use Rattle.kernel_pair.specs.declared.events.UnitHalt.{UnitHalt}
use Rattle.kernel_pair.specs.declared.events.PairEvent.{PairEvent}
use Rattle.kernel_pair.specs.declared.events.PairEvent.TheVariants.{Fly, Note, Store, Ready, Meet, Release, Stop}
use Rattle.kernel_pair.specs.declared.states.PairState.{PairState}
use Rattle.kernel_pair.specs.Pairs.{IsPairNext, IsPairOver, IsPairReplay, KernelUnit, Pair, frame_to_make, next_unit, pair_after}
use Rattle.kernel_pair.specs.Rooms.{pair_left}
use Rattle.kernel_pair.specs.States.{pair_of}

-- A pair: its specification, its script, the halt of a unit, if there is one, its state, and the events so far.
pub record PairParts : Type 0 where
  pub spec : Parts
  pub script : ScriptParts
  pub halt : Option UnitHalt
  pub state : PairState
  pub events : List PairEvent

-- The pair with these parts.
abbrev pub parts_of : Parts → ScriptParts → Option UnitHalt → PairState → List PairEvent → PairParts
parts_of spec script halt state events = record { spec = spec; script = script; halt = halt; state = state; events = events }

-- The flight of a pair's specification and script.
abbrev pub pair_flight : PairParts → Flight
pair_flight k = flight_of k.spec k.script

-- The state of a pair.
abbrev pub pair_in : PairParts → Pair
pair_in k = pair_of k.state

-- The state of a pair after an event.
abbrev pub pair_with : PairParts → PairEvent → Pair
pair_with k event = pair_after (pair_flight k) k.halt (pair_in k) event

-- Unit `u` in the state of a pair.
abbrev pub unit_in : PairParts → ℕ → KernelUnit
unit_in pair u = (pair_in pair).unit u

-- The event is a next event of its actor in the pair.
abbrev pub IsPairNextIn : PairParts → PairEvent → Type 0
IsPairNextIn pair event = IsPairNext (pair_flight pair) pair.halt (pair_in pair) event

-- The next event of unit `u` in the pair, or `None` if the unit has no next event.
abbrev pub next_unit_in : PairParts → ℕ → Option PairEvent
next_unit_in pair u = next_unit (pair_flight pair) pair.halt (pair_in pair) u

-- The frame that processor `p` makes next in the pair, or `None` if the processor has halted for good.
abbrev pub frame_to_make_in : PairParts → ℕ → Option ℕ
frame_to_make_in pair p = frame_to_make (restart_of pair.script p) ((pair_in pair).proc p).place

-- Unit `u` of the pair has noted every processor in its frame.
abbrev pub HasNotedAll : PairParts → ℕ → Type 0
HasNotedAll pair u = length pair.spec.procs ≤ (unit_in pair u).step

-- The flight of the pair is over.
abbrev pub IsPairOverIn : PairParts → Type 0
IsPairOverIn pair = IsPairOver (pair_flight pair) (pair_in pair)

-- The invariant of a pair whose list contains `count` events and has a capacity of `room` events. The events are a
-- schedule from the opening to the state, and the list has space for every remaining event.
pub record PairKeeps (spec : Parts) (script : ScriptParts) (halt : Option UnitHalt) (state : PairState) (events : List PairEvent)
    (room count : ℕ) : Type 0 where
  pub facts : IsSpec spec
  pub fits : Fits spec script
  pub replay : IsPairReplay (flight_of spec script) halt events (pair_of state)
  pub room_left : count + pair_left (flight_of spec script) halt (pair_of state) ≤ room

-- If the event is a `Fly`, `draft` holds the words of the draft of the processor's next frame. If the event is a
-- `Store`, `word` is the word to store. For any other event, `draft` and `word` are arbitrary.
abbrev pub AreEventWords : Flight → Pair → PairEvent → List ℕ → ℕ → Type 0
AreEventWords m s (Fly p u) draft word =
    (f : ℕ) → frame_to_make (m.restart p.0) (s.proc p.0).place ≡ Some f → (i : ℕ) → slice_index_or draft i 0 ≡ word_in (m.draft p.0 f) i
AreEventWords m s (Store u i) draft word = word ≡ word_in (m.kernel_image (suc (s.unit u).frame)) i
AreEventWords m s (Note u p) draft word = Unit {0}
AreEventWords m s (Ready u) draft word = Unit {0}
AreEventWords m s (Meet u) draft word = Unit {0}
AreEventWords m s (Release u) draft word = Unit {0}
AreEventWords m s (Stop u) draft word = Unit {0}

-- The state of `new` is the state of `old` after the event, the event is appended to the list of events, and fewer
-- events remain.
pub record IsPairStep (old : PairParts) (event : PairEvent) (new : PairParts) : Type 0 where
  pub spec : new.spec ≡ old.spec
  pub script : new.script ≡ old.script
  pub halt : new.halt ≡ old.halt
  pub state : pair_in new ≡ pair_with old event
  pub events : new.events ≡ old.events ++ event ∷ []
  pub fewer : suc (pair_left (pair_flight new) new.halt (pair_in new)) ≤ pair_left (pair_flight old) old.halt (pair_in old)
