-- The round-robin schedule. In each frame, each processor in order makes all its steps, and then the kernel makes all
-- its steps.
use Rattle.std.specs.Prelude.{◌≡◌, ℕ, zero, suc, List, [], ◌∷◌, ◌++◌, Option, Some, None, nat_lt, if◌then◌else◌}
use Rattle.scram_types.specs.Lookups.{proc_id}
use Rattle.scram_types.specs.Scripts.{ScriptParts}
use Rattle.scram_types.specs.Searches.{listed_below}
use Rattle.scram_types.specs.Specification.{Parts}
use Rattle.bank_words.specs.declared.events.Event.{Event}
use Rattle.bank_words.specs.declared.events.Event.TheVariants.{Start, Look, Store, Flip, Done, Halt, KNote, KStore, Release}
use Rattle.fail_stop.specs.Ends.{IsOver}
use Rattle.fail_stop.specs.Flights.{Flight, stores_by}
use Rattle.fail_stop.specs.Schedules.{IsSchedule, Machine, opening}
use Rattle.fail_stop.specs.ScriptFlights.{flight_of}
use Rattle.fault_script.specs.Fits.{Fits}

-- The steps of processor `p` in a frame after its stores. The last argument is the step of the processor's halt in
-- the frame, or `None` if the processor does not halt there. Without a halt, the steps are the flip and the end of
-- the frame. With a halt, they are the halt, preceded by the flip if the step of the halt is greater than the width
-- of an image.
abbrev pub ending : Flight → ℕ → Option ℕ → List Event
ending m p None = Flip (proc_id p) ∷ Done (proc_id p) ∷ []
ending m p (Some step) = if nat_lt m.width step then Flip (proc_id p) ∷ Halt (proc_id p) ∷ [] else Halt (proc_id p) ∷ []

-- All steps of processor `p` in a frame: the start, a look at each processor, the stores, and the steps after the
-- stores. The last argument is the step of the processor's halt in the frame, or `None` if the processor does not
-- halt there.
abbrev pub steps_by : Flight → ℕ → Option ℕ → List Event
steps_by m p halt =
    Start (proc_id p) ∷ (listed_below (λ (q : ℕ). Look (proc_id p) (proc_id q)) m.procs
    ++ (listed_below (λ (i : ℕ). Store (proc_id p) i) (stores_by m.width halt) ++ ending m p halt))

-- All steps of processor `p` in frame `f`, or the empty list if the processor is down.
abbrev pub turn_of_proc : Flight → ℕ → ℕ → List Event
turn_of_proc m p f = if m.up p f then steps_by m p (m.halt p f) else []

-- All steps of the processors below `n` in frame `f`, in the order of the processors.
abbrev pub turns_of_procs : Flight → ℕ → ℕ → List Event
turns_of_procs m f zero = []
turns_of_procs m f (suc n) = turns_of_procs m f n ++ turn_of_proc m n f

-- The stores and the release that the kernel makes in frame `f` after its notes, or the empty list if the frame is
-- the last.
abbrev pub releasing : Flight → ℕ → List Event
releasing m f = if nat_lt (suc f) m.frames then listed_below KStore 20 ++ Release ∷ [] else []

-- All steps of the kernel in frame `f`: a note of each processor and, unless the frame is the last, the kernel's
-- stores and the release.
abbrev pub turn_of_kernel : Flight → ℕ → List Event
turn_of_kernel m f = listed_below (λ (p : ℕ). KNote (proc_id p)) m.procs ++ releasing m f

-- The round-robin schedule of the frames below `f`.
abbrev pub frames_in_turns : Flight → ℕ → List Event
frames_in_turns m zero = []
frames_in_turns m (suc f) = frames_in_turns m f ++ (turns_of_procs m f m.procs ++ turn_of_kernel m f)

-- The round-robin schedule of a specification and a script.
abbrev pub in_turns : Parts → ScriptParts → List Event
in_turns spec script = frames_in_turns (flight_of spec script) script.frames

-- The list `new` is `old` with some events appended.
abbrev pub Adds : List Event → List Event → List Event → Type 0
Adds old new events = new ≡ old ++ events

-- The events are a schedule from the opening state, at whose end the flight is over.
pub record LeadsToTheEnd (m : Flight) (events : List Event) : Type 0 where
  pub state : Machine
  pub schedule : IsSchedule m (opening m) events state
  pub over : IsOver m state.at

-- If a script fits its specification, the flight is over at the end of the round-robin schedule.
abbrev pub TurnsLeadToTheEnd : Type 0
TurnsLeadToTheEnd = (spec : Parts) (script : ScriptParts) → Fits spec script → LeadsToTheEnd (flight_of spec script) (in_turns spec script)
