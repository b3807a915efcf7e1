-- The number of frames that have ended, counted by the kernel's events.
use Rattle.std.specs.Prelude.{◌≡◌, ℕ, suc, ◌+◌, ◌*◌, ◌/◌, min, List, [], ◌∷◌, length}
use Rattle.scram_types.specs.Scripts.{ScriptParts}
use Rattle.scram_types.specs.Specification.{IsSpec, Parts}
use Rattle.bank_words.specs.declared.events.Event.{Event}
use Rattle.bank_words.specs.declared.events.Event.TheVariants.{Start, Look, Store, Flip, Done, Halt, KNote, KStore, Release}
use Rattle.fail_stop.specs.Events.{Word}
use Rattle.fail_stop.specs.ScriptFlights.{flight_of}
use Rattle.event_core.specs.declared.places.Places.{Places as KeptPlaces}
use Rattle.event_core.specs.Cores.{frames_ended}
use Rattle.event_core.specs.Places.{machine_places}
use Rattle.event_core.specs.Replays.{IsReplay}

-- The number `n`, increased by one if an event is a note of the kernel.
abbrev pub with_note : Event → ℕ → ℕ
with_note (KNote p) n = suc n
with_note (Start p) n = n
with_note (Look p q) n = n
with_note (Store p i) n = n
with_note (Flip p) n = n
with_note (Done p) n = n
with_note (Halt p) n = n
with_note (KStore i) n = n
with_note Release n = n

-- The number `n`, increased by one if an event is a release.
abbrev pub with_release : Event → ℕ → ℕ
with_release Release n = suc n
with_release (Start p) n = n
with_release (Look p q) n = n
with_release (Store p i) n = n
with_release (Flip p) n = n
with_release (Done p) n = n
with_release (Halt p) n = n
with_release (KNote p) n = n
with_release (KStore i) n = n

-- The number of notes in a list of events.
abbrev pub notes_in : List Event → ℕ
notes_in [] = 0
notes_in (event ∷ events) = with_note event (notes_in events)

-- The number of releases in a list of events.
abbrev pub releases_in : List Event → ℕ
releases_in [] = 0
releases_in (event ∷ events) = with_release event (releases_in events)

-- The number of the kernel's frame is the number of releases. The number of notes is the number of processors for
-- each release, plus the number of notes in the kernel's frame. The number of frames that have ended is the number of
-- notes divided by the number of processors.
pub record AreCounted (spec : Parts) (events : List Event) (places : KeptPlaces) : Type 0 where
  pub frame : places.frame ≡ releases_in events
  pub notes : notes_in events ≡ length spec.procs * releases_in events + min places.step (length spec.procs)
  pub ended : frames_ended spec places ≡ notes_in events / length spec.procs

-- Each history that is a schedule satisfies `AreCounted` for the places to which it leads.
abbrev pub HistoriesCountFrames : Type 0
HistoriesCountFrames = (spec : Parts) (script : ScriptParts) → IsSpec spec → (events : List Event) (places : KeptPlaces) (words : Word → ℕ)
    → IsReplay (flight_of spec script) events (machine_places places) words → AreCounted spec events places
