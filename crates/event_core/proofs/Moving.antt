-- Lemmas on the places of all actors after one processor has moved.
use Rattle.std.proofs.Common.{◌≡◌, ◌∙◌, ℕ, ◌<◌, Bool, true, false, refl, ap, sym, subst, arith, List, length}
use Rattle.std.specs.Prelude.{nat_eq, slice_set, if◌then◌else◌}
use Rattle.std.proofs.lemmas.Bool.Decides.{nat_tests}
use Rattle.std.proofs.lemmas.Grind.{common_steps}
use Rattle.bank_words.specs.declared.events.Event.{Event}
use Rattle.fail_stop.specs.Events.{frame_after, is_actor, moved, step_after}
use Rattle.fail_stop.specs.Flights.{Flight}
use Rattle.event_core.specs.declared.places.Place.{Place as KeptPlace}
use Rattle.fail_stop.specs.Listed.{Moves}
use Rattle.event_core.specs.declared.places.Places.{Places as KeptPlaces}
use Rattle.event_core.specs.Places.{kept_place, machine_place, machine_places}

place_set : (procs : List KeptPlace) (p q : ℕ) (x : KeptPlace) → p < length procs → kept_place (slice_set procs p x) q ≡ (if nat_eq q p then x else kept_place procs q)
place_set procs p q x low = grind (arith, common_steps, nat_tests)

set_by : (m : Flight) (e : Event) (procs : List KeptPlace) (p q : ℕ) (x : KeptPlace) (b : Bool) → nat_eq q p ≡ b → machine_place x ≡ moved m e p (machine_place (kept_place procs p))
    → machine_place (if b then x else kept_place procs q) ≡ (if b then moved m e q (machine_place (kept_place procs q)) else machine_place (kept_place procs q))
set_by m e procs p q x true is moves = let same : q ≡ p = grind (arith, nat_tests, is) in rw same moves
set_by m e procs p q x false is moves = refl

pub proc_set : (m : Flight) (e : Event) (procs : List KeptPlace) (p q : ℕ) (x : KeptPlace) → p < length procs → machine_place x ≡ moved m e p (machine_place (kept_place procs p))
    → machine_place (kept_place (slice_set procs p x) q) ≡ (if nat_eq q p then moved m e q (machine_place (kept_place procs q)) else machine_place (kept_place procs q))
proc_set m e procs p q x low moves = ap machine_place (place_set procs p q x low) ∙ set_by m e procs p q x (nat_eq q p) refl moves

-- If only processor `p` has moved, as its event `e` requires, then `e` takes places `at` to places `at2`.
pub moves_of : (m : Flight) (at at2 : KeptPlaces) (e named : Event) (p : ℕ) → e ≡ named → ((q : ℕ) → is_actor named q ≡ nat_eq q p)
    → frame_after (machine_places at) named ≡ at.frame → step_after (machine_places at) named ≡ at.step
    → ((q : ℕ) → machine_place (kept_place at2.procs q) ≡ (if nat_eq q p then moved m named q (machine_place (kept_place at.procs q)) else machine_place (kept_place at.procs q)))
    → at2.frame ≡ at.frame → at2.step ≡ at.step → Moves m (machine_places at) e (machine_places at2)
moves_of m at at2 e named p is actor frame step procs is_frame is_step = subst (λ (e : Event). Moves m (machine_places at) e (machine_places at2)) (sym is) (record {
  proc = λ q. procs q ∙ ap (λ (b : Bool). if b then moved m named q (machine_place (kept_place at.procs q)) else machine_place (kept_place at.procs q)) (sym (actor q));
  frame = is_frame ∙ sym frame;
  step = is_step ∙ sym step;
})
