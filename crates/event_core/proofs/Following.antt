-- Lemmas that processors in flight are at their places after an event of the machine.
use Rattle.std.proofs.Common.{◌≡◌, ◌∙◌, ◌<◌, ℕ, ℤ, suc, ap, arith, refl, subst, sym, Bool, true, false, List, length}
use Rattle.std.specs.Prelude.{Option, Some, None, is_some, if◌then◌else◌, nat_eq, nat_lt, ◌&&◌, slice_index_or, slice_set}
use native.Mathlib.Decide.{ℕ_discrete}
use Rattle.std.proofs.lemmas.Bool.Decides.{nat_tests}
use Rattle.std.proofs.lemmas.List.{get_or-set_other, get_or-set_same}
use Rattle.app_model.specs.declared.racks.Rack.{Rack}
use Rattle.bank_words.specs.declared.events.Event.{Event}
use Rattle.bank_words.specs.declared.events.Event.TheVariants.{Start}
use Rattle.scram_types.specs.declared.ids.ProcId.{ProcId}
use Rattle.scram_types.specs.Scripts.{ScriptParts}
use Rattle.scram_types.specs.Specification.{IsSpec, Parts}
use Rattle.frame_model.specs.Flights.{draft}
use Rattle.fail_stop.specs.declared.flyers.Flyer.{Flyer}
use Rattle.fail_stop.specs.declared.flyers.Unit.{Unit as HeldUnit}
use Rattle.fail_stop.specs.declared.flyers.Unit.TheVariants.{Up, Down}
use Rattle.fail_stop.specs.declared.snapshots.Draft.{Draft}
use Rattle.fail_stop.specs.declared.snapshots.Snapshot.{Snapshot}
use Rattle.fail_stop.specs.Drafts.{IsSnapshot}
use Rattle.fail_stop.specs.Events.{At, frame_of, Halted, halted_there, Happens, is_actor, is_halted, IsNext, moved, next_from, next_halted, Place, Places, proc_after, ReleaseWord, started, Word}
use Rattle.fail_stop.specs.Flights.{Flight}
use Rattle.fail_stop.specs.Flyers.{AreFlyersAt, IsFlyerAt, IsUnitAt, flyer_halted, flyer_started, is_down, spare_started, unit_halted, unit_proc}
use Rattle.fail_stop.proofs.FlyersAt.{flyers_with, unit_begun, unit_stopped, unit_up}
use Rattle.event_core.specs.declared.flyers.Flyers.{Flyers}
use Rattle.event_core.specs.declared.places.Places.{Places as KeptPlaces}
use Rattle.event_core.specs.Cores.{CoreParts, core_places, core_flight}
use Rattle.event_core.specs.Flyers.{AreLastDrafts, FlyersFitCore, FlyersFit, IsLastDraft}
use Rattle.event_core.specs.Places.{HasLooked, kept_opening, machine_places}
use Rattle.event_core.proofs.Opens.{places_open}

-- A processor that has made all looks of its frame, but neither its flip nor its halt, has not halted.
pub looked_flies : (m : Flight) (place : Place) → HasLooked m place → is_halted place ≡ false
looked_flies m (At f n) looked = refl
looked_flies m (Halted h) looked = absurd looked

-- A halted processor starts only in the frame of its restart, which comes after the halt.
came : (h r release p : ℕ) (e : Event) → next_halted p h release (Some r) ≡ Some e → h < r
came h r release p e next = by_test (nat_lt h r) refl next where
  by_test : (b : Bool) → nat_lt h r ≡ b → (if b && nat_lt r release then Some (Start (record { 0 = p })) else None) ≡ Some e → h < r
  by_test true is next = grind (arith, nat_tests, is)
  by_test false is next = cc

module _ {X : Type 0} {Y : X → Type 0} (m : Flight) where
  spare_kept : (unit : HeldUnit X Y) (spare : Option (Rack X Y)) → is_down unit ≡ false → spare_started unit spare ≡ spare
  spare_kept (Up live) spare up = refl
  spare_kept (Down halted) spare up = cc

  begun_at : (p release : ℕ) (place : Place) (e : Event) (flyer : Flyer X Y) → next_from m p release place ≡ Some e → IsFlyerAt m p place flyer → IsFlyerAt m p (started (m.restart p) place) (flyer_started flyer)
  begun_at p release (At f n) e flyer next at = record {
    unit = unit_begun p (At f n) flyer.unit flyer.spare f (suc n) at.unit (λ halted. cc);
    spare = λ r is later. ap is_some (spare_kept flyer.unit flyer.spare at.unit.down) ∙ at.spare r is later;
  }
  begun_at p release (Halted h) e flyer next at = by_restart (m.restart p) refl next where
    by_restart : (o : Option ℕ) → m.restart p ≡ o → next_halted p h release o ≡ Some e → IsFlyerAt m p (started o (Halted h)) (flyer_started flyer)
    by_restart None is next = cc
    by_restart (Some r) is next =
        let low = came h r release p e next in
        record {
          unit = unit_begun p (Halted h) flyer.unit flyer.spare r 1 at.unit (λ halted. at.spare r is low);
          spare = λ s again later. let same : r ≡ s = cc in absurd (omega (arith, same, later));
        }

  -- If the start of a processor is its next event, then the processor is at its new place after the start.
  pub flyer_begun : (at : Places) (words : Word → ℕ) (p : ProcId) (flyer : Flyer X Y) → p.0 < m.procs → IsNext m at words (Start p) → IsFlyerAt m p.0 (at.proc p.0) flyer
      → IsFlyerAt m p.0 (moved m (Start p) p.0 (at.proc p.0)) (flyer_started flyer)
  flyer_begun at words p flyer known next is = let low : nat_lt p.0 m.procs ≡ true = grind (arith, nat_tests, known) in begun_at p.0 (words ReleaseWord) (at.proc p.0) (Start p) flyer (sym (rw low refl) ∙ next) is

  still_down : (p h : ℕ) (unit : HeldUnit X Y) → IsUnitAt p (Halted h) unit → IsUnitAt p (Halted h) (unit_halted h unit)
  still_down p h (Up live) is = let down = is.down in cc
  still_down p h (Down halted) is = is

  -- After a processor in flight has halted, it is at the place of a halt in its frame.
  pub flyer_stopped : (p : ℕ) (place : Place) (flyer : Flyer X Y) → IsFlyerAt m p place flyer → IsFlyerAt m p (halted_there place) (flyer_halted (frame_of place) flyer)
  flyer_stopped p (At f n) flyer is = record { unit = unit_stopped p (At f n) flyer.unit is.unit refl; spare = is.spare }
  flyer_stopped p (Halted h) flyer is = record { unit = still_down p h flyer.unit is.unit; spare = is.spare }

  -- If one processor starts or halts, then all processors are at their places after the event.
  pub flyers_turn : (at : Places) (e : Event) (flyers : List (Flyer X Y)) (p : ℕ) (flyer : Flyer X Y) → ((q : ℕ) → is_actor e q ≡ nat_eq q p) → AreFlyersAt m at.proc flyers → p < 8
      → IsFlyerAt m p (moved m e p (at.proc p)) flyer → AreFlyersAt m (proc_after m at e) (slice_set flyers p flyer)
  flyers_turn at e flyers p flyer by are low is = flyers_with m at.proc (proc_after m at e) flyers p flyer are low
      (let own : is_actor e p ≡ true = by p ∙ grind (arith, nat_tests) in rw own is)
      (λ q other. let foreign : is_actor e q ≡ false = by q ∙ grind (arith, nat_tests, other) in rw foreign refl)

  -- If one processor has made a draft, then all processors are still at their places.
  pub flyers_drafted : (at : ℕ → Place) (flyers : List (Flyer X Y)) (p : ℕ) (was flyer : Flyer X Y) → AreFlyersAt m at flyers → p < 8 → is_halted (at p) ≡ false → IsFlyerAt m p (at p) was
      → is_down flyer.unit ≡ false → unit_proc flyer.unit ≡ unit_proc was.unit → flyer.spare ≡ was.spare → AreFlyersAt m at (slice_set flyers p flyer)
  flyers_drafted at flyers p was flyer are low flies is up number spare = flyers_with m at at flyers p flyer are low
      (record { unit = unit_up p (at p) flyer.unit flies up (number ∙ is.unit.number); spare = λ r e later. ap is_some spare ∙ is.spare r e later })
      (λ q other. refl)

pub drafts_with : (spec : Parts) (script : ScriptParts) (drafted : List (Option Draft)) (p : ℕ) (made : Option Draft) → length drafted ≡ 8 → p < 8 → IsLastDraft spec script p made
    → AreLastDrafts spec script drafted → AreLastDrafts spec script (slice_set drafted p made)
drafts_with spec script drafted p made long low is old q small = by_place (ℕ_discrete q p) where
  by_place : Dec (q ≡ p) → IsLastDraft spec script q (slice_index_or (slice_set drafted p made) q None)
  by_place (yes e) = subst (λ q. IsLastDraft spec script q (slice_index_or (slice_set drafted p made) q None)) (sym e)
      (subst (IsLastDraft spec script p) (sym (get_or-set_same drafted p made None (omega (arith, low, long)))) is)
  by_place (no e) = subst (IsLastDraft spec script q) (sym (get_or-set_other drafted p q made None e)) (old q small)

-- The draft that a processor makes of the snapshot of a frame is its draft in the one-thread trace.
pub drafted_by : (spec own : Parts) (script : ScriptParts) (p q f : ℕ) (snap : Snapshot) (image : List ℤ) → spec ≡ own → IsSpec own → p < length own.procs → q ≡ p → IsSnapshot spec script f snap
    → ((script : ScriptParts) (f : ℕ) → IsSpec own → q < length own.procs → IsSnapshot own script f snap → image ≡ draft own script q f) → image ≡ draft spec script p f
drafted_by spec own script p q f snap image same facts known number shown trace =
    trace script f facts (rw number known) (subst (λ spec. IsSnapshot spec script f snap) same shown) ∙ ap (λ q. draft own script q f) number ∙ ap (λ spec. draft spec script p f) (sym same)

-- Lemmas that the processors fly with a core at the opening and after each event.
module _ {X : Type 0} {Y : X → Type 0} where
  pub fly_first : (core : CoreParts) (flyers : Flyers X Y) → core.places ≡ kept_opening → FlyersFit core.spec core.script (λ p. At 0 0) flyers → FlyersFitCore core flyers
  fly_first core flyers is fits =
      subst (λ (at : ℕ → Place). FlyersFit core.spec core.script at flyers)
      (sym (ap (λ (places : KeptPlaces). (machine_places places).proc) is ∙ ap (λ (at : Places). at.proc) places_open)) fits

  pub fly_on : (was core : CoreParts) (words words2 : Word → ℕ) (e : Event) (flyers : Flyers X Y) → core.spec ≡ was.spec → core.script ≡ was.script
      → Happens (core_flight was) (core_places was) words e (core_places core) words2 → FlyersFit was.spec was.script (proc_after (core_flight was) (core_places was) e) flyers → FlyersFitCore core flyers
  fly_on was core words words2 e flyers same_spec same_script happens fits =
      let at : (core_places core).proc ≡ proc_after (core_flight was) (core_places was) e = λ i q. happens.proc q i in
      subst (λ (spec : Parts). FlyersFit spec core.script (core_places core).proc flyers) (sym same_spec)
      (subst (λ (script : ScriptParts). FlyersFit was.spec script (core_places core).proc flyers) (sym same_script)
      (subst (λ (at : ℕ → Place). FlyersFit was.spec was.script at flyers) (sym at) fits))
