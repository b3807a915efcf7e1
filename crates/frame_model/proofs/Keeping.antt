-- The area of each application equals the slot in the image of its keeper.
use Rattle.std.proofs.Common.{◌≡◌, ◌∙◌, ℕ, zero, suc, refl, sym, arith, Bool, true, false, List}
use mathlib.Core.Logic.{inl, inr}
use Rattle.std.specs.Prelude.{ℤ, ◌==◌, Option, Some, None, option_map, if◌then◌else◌}
use Rattle.std.proofs.lemmas.Bool.Decides.{nat_tests}
use Rattle.scram_types.proofs.Naturals.{same_or_not, differ_test}
use Rattle.scram_types.specs.declared.ids.ProcId.{ProcId}
use Rattle.scram_types.specs.declared.specification.Place.{Place}
use Rattle.scram_types.specs.Specification.{Parts}
use Rattle.scram_types.specs.Lookups.{place_of}
use Rattle.scram_types.proofs.Eights.{eight_at}
use Rattle.fault_script.specs.Environments.{env_at}
use Rattle.fault_script.specs.Times.{commits}
use Rattle.frame_model.specs.Flights.{is_proc, slot_after, state_after, task_given}
use Rattle.frame_model.specs.Laws.{AreasAreKept, IsSlotOfKeeper}
use Rattle.frame_model.specs.States.{area_after, area_at, area_on, keeper_after, keeper_at, keeper_on, law_of, start_area_at, start_area_of, start_keeper_of, zeros}

itself : (p : ℕ) → (p == p) ≡ true
itself p = grind (arith, nat_tests)

abbrev slot_next : (ℕ → Bool) → List ℤ → (ℕ → List ℤ) → Option ProcId → ℕ → List ℤ
slot_next c made slot proc q = if c q then (if is_proc q proc then made else slot q) else slot q

idle : {A : Type 0} (b : Bool) (x : A) → (if b then x else x) ≡ x
idle true x = refl
idle false x = refl

-- If the processor of a task does not commit, the task changes no slot of the application in any image.
slot_stays : (c : ℕ → Bool) (made : List ℤ) (slot : ℕ → List ℤ) (proc : ProcId) (q : ℕ) → c proc.0 ≡ false → slot_next c made slot (Some proc) q ≡ slot q
slot_stays c made slot proc q lost = elim (same_or_not proc.0 q) [
  | inl same ↦ let here : c q ≡ false = rw (sym same) lost in rw here refl
  | inr other ↦ rw (differ_test proc.0 q other) (idle (c q) (slot q))
]

stays : (keeper : Option ProcId) (area : List ℤ) (slot next : ℕ → List ℤ) → ((q : ℕ) → next q ≡ slot q) → IsSlotOfKeeper keeper area slot → IsSlotOfKeeper keeper area next
stays None area slot next same kept = kept
stays (Some proc) area slot next same kept = kept ∙ sym (same proc.0)

takes : (c : ℕ → Bool) (made : List ℤ) (slot : ℕ → List ℤ) (proc : ProcId) → c proc.0 ≡ true → made ≡ slot_next c made slot (Some proc) proc.0
takes c made slot proc in_time = rw (in_time, itself proc.0) refl

placed_kept : (c : ℕ → Bool) (keeper : Option ProcId) (made old : List ℤ) (slot : ℕ → List ℤ) (proc : ProcId) (b : Bool) → c proc.0 ≡ b → IsSlotOfKeeper keeper old slot
    → IsSlotOfKeeper (if b then Some proc else keeper) (if b then made else old) (slot_next c made slot (Some proc))
placed_kept c keeper made old slot proc true is kept = takes c made slot proc is
placed_kept c keeper made old slot proc false is kept = stays keeper old slot (slot_next c made slot (Some proc)) (λ q. slot_stays c made slot proc q is) kept

kept_more : (c : ℕ → Bool) (keeper : Option ProcId) (made old : List ℤ) (slot : ℕ → List ℤ) (proc : Option ProcId) → IsSlotOfKeeper keeper old slot
    → IsSlotOfKeeper (keeper_on c keeper proc) (area_on c made old proc) (slot_next c made slot proc)
kept_more c keeper made old slot None kept = refl
kept_more c keeper made old slot (Some proc) kept = placed_kept c keeper made old slot proc (c proc.0) refl kept

start_kept : (spec : Parts) (a : ℕ) (place : Option Place)
    → IsSlotOfKeeper (option_map (λ (p : Place). p.proc) place) (start_area_at spec a place) (λ p. if is_proc p (option_map (λ (q : Place). q.proc) place) then start_area_at spec a place else zeros)
start_kept spec a None = refl
start_kept spec a (Some place) = rw (itself place.proc.0) refl

kept_at : {keeper keeper2 : Option ProcId} {area area2 : List ℤ} (slot : ℕ → List ℤ) → keeper2 ≡ keeper → area2 ≡ area → IsSlotOfKeeper keeper area slot → IsSlotOfKeeper keeper2 area2 slot
kept_at slot same_keeper same_area kept = rw (same_keeper, same_area) kept

pub areas_kept : AreasAreKept
areas_kept spec script zero a low =
    kept_at (λ p. slot_after spec script p 0 a) (eight_at (start_keeper_of spec) a None low) (eight_at (start_area_of spec) a zeros low) (start_kept spec a (place_of spec spec.start a))
areas_kept spec script (suc f) a low =
    kept_at (λ p. slot_after spec script p (suc f) a)
    (eight_at (λ b. keeper_after (λ p. commits spec script p f) (state_after spec script f) (task_given spec script f b) b) a None low)
    (eight_at (λ b. area_after spec (env_at spec script f) (λ p. commits spec script p f) (state_after spec script f) (task_given spec script f b) b) a zeros low)
    (kept_more (λ p. commits spec script p f) (keeper_at (state_after spec script f).keepers a)
    (law_of spec (env_at spec script f) (state_after spec script f) (task_given spec script f a) a) (area_at (state_after spec script f).areas a)
    (λ p. slot_after spec script p f a) (task_given spec script f a).proc (areas_kept spec script f a low))
