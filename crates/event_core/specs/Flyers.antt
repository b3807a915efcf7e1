-- Processors that fly with a core.
use Rattle.std.specs.Prelude.{◌≡◌, ℕ, ◌<◌, List, slice_index_or, Option, None, IfSome}
use Rattle.fail_stop.specs.declared.snapshots.Draft.{Draft}
use Rattle.bank_words.specs.declared.events.Event.{Event}
use Rattle.fail_stop.specs.Events.{Place, proc_after}
use Rattle.fail_stop.specs.Flyers.{AreFlyersAt}
use Rattle.fail_stop.specs.ScriptFlights.{flight_of}
use Rattle.frame_model.specs.Flights.{draft}
use Rattle.scram_types.specs.Scripts.{ScriptParts}
use Rattle.scram_types.specs.Specification.{Parts}
use Rattle.event_core.specs.declared.flyers.Flyers.{Flyers}
use Rattle.event_core.specs.Cores.{CoreParts, core_flight, core_places}

-- If there is a last draft, its image is the draft of processor `p` in the one-thread trace, in the frame of the last
-- draft.
abbrev pub IsLastDraft : Parts → ScriptParts → ℕ → Option Draft → Type 0
IsLastDraft spec script p drafted = IfSome drafted (λ (made : Draft). made.image ≡ draft spec script p made.frame)

-- Each of the last drafts of eight processors satisfies `IsLastDraft`.
abbrev pub AreLastDrafts : Parts → ScriptParts → List (Option Draft) → Type 0
AreLastDrafts spec script drafted = (p : ℕ) → p < 8 → IsLastDraft spec script p (slice_index_or drafted p None)

-- The processors are at the places `at`, and their last drafts satisfy `AreLastDrafts`.
pub record FlyersFit {X : Type 0} {Y : X → Type 0} (spec : Parts) (script : ScriptParts) (at : ℕ → Place) (flyers : Flyers X Y) : Type 0 where
  pub all : AreFlyersAt (flight_of spec script) at flyers.all.items
  pub drafted : AreLastDrafts spec script flyers.drafted

-- The processors are at the places of the core's machine, and their last drafts satisfy `AreLastDrafts`.
abbrev pub FlyersFitCore : {X : Type 0} {Y : X → Type 0} → CoreParts → Flyers X Y → Type 0
FlyersFitCore core flyers = FlyersFit core.spec core.script (core_places core).proc flyers

-- The processors satisfy `FlyersFitCore` for the core after it has made an event.
abbrev pub FlyersFitAfter : {X : Type 0} {Y : X → Type 0} → CoreParts → Event → Flyers X Y → Type 0
FlyersFitAfter core event flyers = FlyersFit core.spec core.script (proc_after (core_flight core) (core_places core) event) flyers
