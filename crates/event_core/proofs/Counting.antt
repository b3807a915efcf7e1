-- Lemmas that the numbers of releases and notes agree with the kernel's place after each event.
use Rattle.std.proofs.Common.{◌≡◌, ◌∙◌, ℕ, suc, ◌+◌, ◌*◌, ◌/◌, ◌<◌, ◌≤◌, true, false, refl, ap, sym, subst, arith, List, [], ◌∷◌, length}
use Rattle.std.specs.Prelude.{min, nat_le}
use Rattle.std.proofs.lemmas.Bool.Decides.{nat_tests}
use Rattle.std.proofs.lemmas.Nat.{div-mul-add}
use native.Mathlib.Decide.{dec_le}
use Rattle.scram_types.specs.declared.rows.Row.{Row}
use Rattle.scram_types.specs.Scripts.{ScriptParts}
use Rattle.scram_types.specs.Specification.{IsSpec, Parts}
use Rattle.bank_words.specs.declared.events.Event.{Event}
use Rattle.bank_words.specs.declared.events.Event.TheVariants.{Start, Look, Store, Flip, Done, Halt, KNote, KStore, Release}
use Rattle.fail_stop.specs.Events.{IsNext, Places}
use Rattle.fail_stop.specs.Flights.{Flight}
use Rattle.fail_stop.specs.Schedules.{IsSchedule, Machine, happened, opening}
use Rattle.fail_stop.specs.ScriptFlights.{flight_of}
use Rattle.fail_stop.proofs.Plans.{next_kstore, next_note, next_release}
use Rattle.frame_model.specs.Flights.{row_at}
use Rattle.scram_kernel.specs.Kernels.{rows_below}
use Rattle.scram_types.proofs.Searches.{length_listed}
use Rattle.event_core.specs.declared.places.Places.{Places as KeptPlaces}
use Rattle.event_core.specs.Cores.{CoreParts, core_of, core_places, core_words, core_flight, frames_ended}
use Rattle.event_core.specs.Counts.{HistoriesCountFrames, notes_in, releases_in, with_note, with_release}
use Rattle.event_core.specs.Replays.{IsReplay}
use Rattle.event_core.proofs.Ending.{ended_by}

module _ (m : Flight) where
  -- The number of notes in the frames before the kernel's frame, plus the number of notes made so far in the kernel's
  -- frame.
  abbrev noted : Places → ℕ
  noted at = m.procs * at.frame + min at.step m.procs

  record Moves (at at2 : Places) (e : Event) (k n : ℕ) : Type 0 where
    frame : at2.frame + k ≡ at.frame + with_release e k
    notes : noted at2 + n ≡ noted at + with_note e n

  more : (s : Machine) (e : Event) (k n : ℕ) → IsNext m s.at s.words e → Moves s.at (happened m s e).at e k n
  more s (Start p) k n i = record { frame = refl; notes = refl }
  more s (Look p q) k n i = record { frame = refl; notes = refl }
  more s (Store p x) k n i = record { frame = refl; notes = refl }
  more s (Flip p) k n i = record { frame = refl; notes = refl }
  more s (Done p) k n i = record { frame = refl; notes = refl }
  more s (Halt p) k n i = record { frame = refl; notes = refl }
  more s (KNote p) k n i =
      let told = next_note m s.at s.words p.0 i in
      let low : s.at.step < m.procs = (let a = told.0 in let b = told.1 in omega (arith, a, b)) in
      let kept : min s.at.step m.procs ≡ s.at.step = omega (arith, low) in
      let next : min (suc s.at.step) m.procs ≡ suc s.at.step = omega (arith, low) in
      record { frame = refl; notes = ap (λ x. m.procs * s.at.frame + x + n) next ∙ (let sum : m.procs * s.at.frame + suc s.at.step + n ≡ m.procs * s.at.frame + s.at.step + suc n = grind arith in sum) ∙ ap (λ x. m.procs * s.at.frame + x + suc n) (sym kept) }
  more s (KStore x) k n i =
      let told = next_kstore m s.at s.words x i in
      let all = told.0 in
      let kept : min s.at.step m.procs ≡ m.procs = omega (arith, all) in
      let next : min (suc s.at.step) m.procs ≡ m.procs = omega (arith, all) in
      record { frame = refl; notes = ap (λ x. m.procs * s.at.frame + x + n) (next ∙ sym kept) }
  more s Release k n i =
      let told = next_release m s.at s.words i in
      let at = told.0 in
      let kept : min s.at.step m.procs ≡ m.procs = omega (arith, at) in
      record {
        frame = omega arith;
        notes = (let sum : m.procs * suc s.at.frame + min 0 m.procs + n ≡ m.procs * s.at.frame + m.procs + n = grind arith in sum) ∙ ap (λ x. m.procs * s.at.frame + x + n) (sym kept);
      }

  frames_on : (s : Machine) (es : List Event) (t : Machine) → IsSchedule m s es t → t.at.frame ≡ s.at.frame + releases_in es
  frames_on s [] t is = ap (λ (u : Machine). u.at.frame) is ∙ (let none : s.at.frame ≡ s.at.frame + 0 = omega arith in none)
  frames_on s (e ∷ es) t is =
      let rest = frames_on (happened m s e) es t is.1 in
      rest ∙ (more s e (releases_in es) 0 is.0).frame

  notes_on : (s : Machine) (es : List Event) (t : Machine) → IsSchedule m s es t → noted t.at ≡ noted s.at + notes_in es
  notes_on s [] t is = ap (λ (u : Machine). noted u.at) is ∙ (let none : noted s.at ≡ noted s.at + 0 = grind arith in none)
  notes_on s (e ∷ es) t is =
      let rest = notes_on (happened m s e) es t is.1 in
      rest ∙ (more s e 0 (notes_in es) is.0).notes

-- The number of frames that have ended is the number of notes divided by the number of processors.
ended_notes : (spec : Parts) (places : KeptPlaces) → 0 < length spec.procs → frames_ended spec places ≡ (length spec.procs * places.frame + min places.step (length spec.procs)) / length spec.procs
ended_notes spec places some = by_side (dec_le (length spec.procs) places.step) where
  procs : ℕ
  procs = length spec.procs

  by_side : Dec (procs ≤ places.step) → frames_ended spec places ≡ (procs * places.frame + min places.step procs) / procs
  by_side (yes all) =
      let noted : nat_le procs places.step ≡ true = grind (arith, nat_tests, all) in
      let kept : min places.step procs ≡ procs = omega (arith, all) in
      let sum : procs * places.frame + procs ≡ (places.frame + 1) * procs + 0 = grind arith in
      ended_by spec places true noted ∙ sym (div-mul-add (places.frame + 1) procs 0 some) ∙ ap (λ n. n / procs) (sym sum) ∙ ap (λ n. (procs * places.frame + n) / procs) (sym kept)
  by_side (no few) =
      let low : places.step < procs = omega (arith, few) in
      let going : nat_le procs places.step ≡ false = grind (arith, nat_tests, low) in
      let kept : min places.step procs ≡ places.step = omega (arith, low) in
      let sum : procs * places.frame + places.step ≡ places.frame * procs + places.step = grind arith in
      ended_by spec places false going ∙ sym (div-mul-add places.frame procs places.step low) ∙ ap (λ n. n / procs) (sym sum) ∙ ap (λ n. (procs * places.frame + n) / procs) (sym kept)

pub counted : HistoriesCountFrames
counted spec script facts events places words r =
    let m = flight_of spec script in
    let frame : places.frame ≡ releases_in events = ap (λ (at : Places). at.frame) r.places_are ∙ frames_on m (opening m) events r.state r.schedule ∙ (let sum : 0 + releases_in events ≡ releases_in events = omega arith in sum) in
    let start : noted m (opening m).at ≡ 0 = grind arith in
    let notes : length spec.procs * places.frame + min places.step (length spec.procs) ≡ notes_in events =
    ap (noted m) r.places_are ∙ notes_on m (opening m) events r.state r.schedule ∙ ap (λ n. n + notes_in events) start ∙ (let sum : 0 + notes_in events ≡ notes_in events = omega arith in sum) in
    record {
      frame = frame;
      notes = sym notes ∙ ap (λ f. length spec.procs * f + min places.step (length spec.procs)) frame;
      ended = ended_notes spec places facts.procs_count.enough ∙ ap (λ n. n / length spec.procs) notes;
    }

-- The number of rows of a core is the number of notes in its history, divided by the number of processors.
pub rows_counted : (core : CoreParts) (spec : Parts) (script : ScriptParts) (places : KeptPlaces) (stored : List ℕ) (history : List Event) (rows : List Row) → core_of spec script places stored history ≡ core
    → IsSpec spec → rows ≡ rows_below core.spec core.script (frames_ended core.spec core.places)
    → IsReplay (core_flight core) core.history (core_places core) (core_words core) → length rows ≡ notes_in core.history / length core.spec.procs
rows_counted core spec script places stored history rows view facts is replay =
    let sound : IsSpec core.spec = subst (λ (core : CoreParts). IsSpec core.spec) view facts in
    ap length is ∙ length_listed (row_at core.spec core.script) (frames_ended core.spec core.places)
    ∙ (counted core.spec core.script sound core.history core.places (core_words core) replay).ended
