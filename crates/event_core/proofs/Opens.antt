-- A core satisfies its invariant at the opening.
use Rattle.std.proofs.Common.{◌≡◌, ◌∙◌, ℕ, zero, suc, ◌+◌, ◌*◌, ◌≤◌, refl, ap, sym, subst, arith, false, List, [], length}
use Rattle.std.specs.Prelude.{ℤ, Option, nat_le, replicate, slice_index_or}
use Rattle.scram_types.specs.declared.ids.ProcId.{ProcId}
use Rattle.scram_types.specs.Eights.{eight}
use Rattle.scram_types.specs.Scripts.{ScriptParts}
use Rattle.scram_types.specs.Specification.{IsSpec, Parts}
use Rattle.std.proofs.lemmas.Bool.Decides.{nat_tests}
use Rattle.fault_script.specs.Fits.{Fits}
use Rattle.scram_kernel.specs.Kernels.{KernelParts, kernel_after}
use Rattle.frame_model.specs.States.{start_area_of, start_keeper_of}
use Rattle.fail_stop.specs.Flights.{Flight}
use Rattle.fail_stop.specs.Kept.{opening_places}
use Rattle.fail_stop.specs.ScriptFlights.{flight_of, kernel_words}
use Rattle.fail_stop.specs.Schedules.{IsSchedule, opening, opening as opening_of}
use Rattle.event_core.specs.declared.places.Places.{Places as KeptPlaces}
use Rattle.event_core.specs.Cores.{CoreKeeps, MachineKeeps, frames_ended}
use Rattle.fail_stop.specs.Openings.{opening_list}
use Rattle.event_core.specs.Places.{kept_opening, machine_place, machine_places}
use Rattle.event_core.specs.Rooms.{events_a_frame, events_left, left_below}
use Rattle.fail_stop.proofs.OpeningLists.{opening_listed, opening_long}
use Rattle.event_core.proofs.Replays.{places_same}
use Rattle.bank_words.specs.declared.events.Event.{Event}

pub replicated : {A : Type 0} (n q : ℕ) (x : A) → slice_index_or (replicate n x) q x ≡ x
replicated zero q x = refl
replicated (suc n) zero x = refl
replicated (suc n) (suc q) x = replicated n q x

pub places_open : machine_places kept_opening ≡ opening_places
places_open = places_same (machine_places kept_opening) opening_places (λ q. ap machine_place (replicated 8 q _)) refl refl

left_open : (m : Flight) (n : ℕ) → left_below m opening_places n ≡ n * (m.frames * events_a_frame m)
left_open m zero = grind arith
left_open m (suc n) = let front = left_open m n in grind (arith, front)

pub all_events : (m : Flight) → events_left m opening_places ≡ m.frames * (m.procs * events_a_frame m + (m.procs + 21))
all_events m = let procs = left_open m m.procs in rw procs (grind arith)

pub open_keeps : (spec : Parts) (script : ScriptParts) (first : List ℕ) (areas : List (List ℤ)) (keepers : List (Option ProcId)) (places : KeptPlaces) (stored : List ℕ) (history : List Event) (room count : ℕ)
    → IsSpec spec → Fits spec script → places ≡ kept_opening → stored ≡ opening_list script.frames first areas keepers → first ≡ kernel_words spec script 0
    → areas ≡ eight (start_area_of spec) → keepers ≡ eight (start_keeper_of spec) → history ≡ []
    → script.frames * (length spec.procs * (length spec.procs + 8 * length spec.apps + 3) + (length spec.procs + 21)) ≤ room → count ≡ 0
    → MachineKeeps spec script places stored history room count
open_keeps spec script first areas keepers places stored history room count facts fits is_places is_stored is_first is_areas is_keepers is_history is_room is_count =
    let narrow = facts.apps_count.few in
    let list : stored ≡ opening_list script.frames (kernel_words spec script 0) (eight (start_area_of spec)) (eight (start_keeper_of spec)) = rw (← is_first, ← is_areas, ← is_keepers) is_stored in
    let where_ : machine_places places ≡ opening_places = ap machine_places is_places ∙ places_open in
    let left : 0 + events_left (flight_of spec script) (machine_places places) ≡ script.frames * (length spec.procs * (length spec.procs + 8 * length spec.apps + 3) + (length spec.procs + 21)) =
    ap (λ at. 0 + events_left (flight_of spec script) at) where_ ∙ ap (λ n. 0 + n) (all_events (flight_of spec script)) ∙ grind arith in
    record {
      facts = facts;
      fits = fits;
      long = ap length is_stored ∙ opening_long script.frames first areas keepers;
      replay = record {
        state = opening_of (flight_of spec script);
        schedule = subst (λ (events : List Event). IsSchedule (flight_of spec script) (opening (flight_of spec script)) events (opening (flight_of spec script))) (sym is_history) refl;
        places_are = where_;
        words_are = λ w s. opening_listed spec script stored w list facts.procs_count.few (omega (arith, narrow)) s;
      };
      room_left = subst (λ n. n + events_left (flight_of spec script) (machine_places places) ≤ room) (sym is_count) (subst (λ n. n ≤ room) (sym left) is_room);
    }

-- A core satisfies `CoreKeeps` if its machine satisfies `MachineKeeps`, its places are the opening places, and its
-- kernel is the kernel before the first frame.
pub opened : (spec : Parts) (script : ScriptParts) (places : KeptPlaces) (stored : List ℕ) (history : List Event) (room count : ℕ) (kernel : KernelParts)
    → MachineKeeps spec script places stored history room count → places ≡ kept_opening → kernel ≡ kernel_after spec script 0 → CoreKeeps spec script places stored history room count kernel
opened spec script places stored history room count kernel machine is_places is_kernel =
    let some : nat_le (length spec.procs) 0 ≡ false = (let one = machine.facts.procs_count.enough in grind (arith, nat_tests, one)) in
    let none : frames_ended spec places ≡ 0 = ap (frames_ended spec) is_places ∙ rw some refl in
    record { machine = machine; kernel_is = is_kernel ∙ ap (kernel_after spec script) (sym none) }
