-- Proof that processors in flight are at their places in the machine after a start and after a halt.
use Rattle.std.proofs.Common.{◌≡◌, ◌∙◌, ◌+◌, ◌<◌, ℕ, ap, arith, refl, subst, sym, true, false, List, [], ◌∷◌, ◌++◌, length}
use Rattle.std.specs.Prelude.{Option, Some, None, is_some, map, slice_index_or, slice_set}
use native.Mathlib.Decide.{ℕ_discrete}
use Rattle.std.proofs.lemmas.List.{append-nil, get_or-set_other, get_or-set_same, get_or_append_left, length-set}
use Rattle.std.proofs.Math.Seq.{get_or-append_seam}
use Rattle.scram_types.specs.declared.ids.ProcId.{ProcId}
use Rattle.app_model.specs.declared.racks.Rack.{Rack}
use Rattle.fail_stop.specs.declared.flyers.Flyer.{Flyer}
use Rattle.fail_stop.specs.declared.flyers.Unit.{Unit as HeldUnit}
use Rattle.fail_stop.specs.declared.flyers.Unit.TheVariants.{Up, Down}
use Rattle.fail_stop.specs.Events.{Place, At, Halted, frame_of, is_halted}
use Rattle.fail_stop.specs.Flights.{Flight}
use Rattle.fail_stop.specs.Flyers.{AreFlyersAt, IsFlyerAt, IsUnitAt, is_down, unit_halted, unit_proc, unit_started}

module _ {X : Type 0} {Y : X → Type 0} where
  -- A live unit of processor `p` is the unit of `p` at each place at which the processor has not halted.
  pub unit_up : (p : ℕ) (place : Place) (unit : HeldUnit X Y) → is_halted place ≡ false → is_down unit ≡ false → unit_proc unit ≡ p → IsUnitAt p place unit
  unit_up p place unit flies up is = record { number = is; down = up ∙ sym flies; frame = λ down. cc }

  -- A start does not change the number of a unit's processor.
  pub number_started : (unit : HeldUnit X Y) (spare : Option (Rack X Y)) → unit_proc (unit_started unit spare) ≡ unit_proc unit
  number_started (Up live) spare = refl
  number_started (Down halted) None = refl
  number_started (Down halted) (Some rack) = refl

  pub number_halted : (f : ℕ) (unit : HeldUnit X Y) → unit_proc (unit_halted f unit) ≡ unit_proc unit
  number_halted f (Up live) = refl
  number_halted f (Down halted) = refl

  -- After a start, the unit of a processor is at any place `At f n`, if the unit was live or a spare rack is present.
  pub unit_begun : (p : ℕ) (place : Place) (unit : HeldUnit X Y) (spare : Option (Rack X Y)) (f n : ℕ) → IsUnitAt p place unit → (is_halted place ≡ true → is_some spare ≡ true)
      → IsUnitAt p (At f n) (unit_started unit spare)
  unit_begun p place (Up live) spare f n is some = record { number = is.number; down = refl; frame = λ down. cc }
  unit_begun p place (Down halted) None f n is some = let none = some (sym is.down) in cc
  unit_begun p place (Down halted) (Some rack) f n is some = record { number = is.number; down = refl; frame = λ down. cc }

  pub unit_stopped : (p : ℕ) (place : Place) (unit : HeldUnit X Y) → IsUnitAt p place unit → is_halted place ≡ false → IsUnitAt p (Halted (frame_of place)) (unit_halted (frame_of place) unit)
  unit_stopped p place (Up live) is flies = record { number = is.number; down = refl; frame = λ down. refl }
  unit_stopped p place (Down halted) is flies = let down = is.down in cc

-- Lemmas on a list to which one element is appended, or in which one element is replaced.
module _ {A : Type 0} (P : ℕ → A → Type 0) (items : List A) where
  pub each_pushed : (item : A) → P (length items) item → ((k : ℕ) (none : A) → k < length items → P k (slice_index_or items k none))
      → (k : ℕ) (none : A) → k < length items + 1 → P k (slice_index_or (items ++ item ∷ []) k none)
  each_pushed item is all k none low = by_place (ℕ_discrete k (length items)) where
    by_place : Dec (k ≡ length items) → P k (slice_index_or (items ++ item ∷ []) k none)
    by_place (yes e) = subst (λ k. P k (slice_index_or (items ++ item ∷ []) k none)) (sym e) (subst (P (length items)) (sym (get_or-append_seam items item [] none)) is)
    by_place (no e) =
        let inside : k < length items = omega (arith, low, e) in
        subst (P k) (sym (get_or_append_left items (item ∷ []) none k inside)) (all k none inside)

  pub each_replaced : (i : ℕ) (item : A) → i < length items → P i item → ((k : ℕ) (none : A) → (k ≡ i → ⊥) → k < length items → P k (slice_index_or items k none))
      → (k : ℕ) (none : A) → k < length items → P k (slice_index_or (slice_set items i item) k none)
  each_replaced i item inside is all k none low = by_place (ℕ_discrete k i) where
    by_place : Dec (k ≡ i) → P k (slice_index_or (slice_set items i item) k none)
    by_place (yes e) = subst (λ k. P k (slice_index_or (slice_set items i item) k none)) (sym e) (subst (P i) (sym (get_or-set_same items i item none inside)) is)
    by_place (no e) = subst (P k) (sym (get_or-set_other items i k item none e)) (all k none e low)

-- If an element moves from the front of the remaining list to the end of the made list, then the two lists together
-- stay the same.
pub taken_more : {A B : Type 0} (of : A → B) (made : List A) (a : A) (left rest : List B) {b : B} → of a ≡ b → left ≡ b ∷ rest → map of (made ++ a ∷ []) ++ rest ≡ map of made ++ left
taken_more of [] a left rest is front = ap (λ b. b ∷ rest) is ∙ sym front
taken_more of (x ∷ made) a left rest is front = ap (λ l. of x ∷ l) (taken_more of made a left rest is front)

-- If no element remains, then the made list is the whole list.
pub all_taken : {A B : Type 0} (made : List B) (rest : List A) (of : A → B) (all : List B) → length rest ≡ 0 → made ++ map of rest ≡ all → made ≡ all
all_taken made [] of all none are = sym (append-nil made) ∙ are
all_taken made (x ∷ rest) of all none are = absurd (omega (arith, none))

module _ {X : Type 0} {Y : X → Type 0} (m : Flight) where
  pub opening_flyer : (p : ℕ) (flyer : Flyer X Y) (proc : ProcId) (rack spare : Rack X Y) → flyer.unit ≡ Up (record { proc = proc; rack = rack }) → flyer.spare ≡ Some spare → proc.0 ≡ p
      → IsFlyerAt m p (At 0 0) flyer
  opening_flyer p flyer proc rack spare unit some is = record { unit = rw unit (record { number = is; down = refl; frame = λ down. cc }); spare = λ r e low. ap is_some some }

  -- If processor `i` of a list is replaced by a processor at its new place, and no other place changes, then each
  -- processor is at its place.
  pub flyers_with : (before after : ℕ → Place) (flyers : List (Flyer X Y)) (i : ℕ) (flyer : Flyer X Y) → AreFlyersAt m before flyers → i < 8 → IsFlyerAt m i (after i) flyer
      → ((q : ℕ) → (q ≡ i → ⊥) → after q ≡ before q) → AreFlyersAt m after (slice_set flyers i flyer)
  flyers_with before after flyers i flyer are low is others =
      let long : length flyers ≡ 8 = are.count in
      record {
        count = length-set flyers i flyer ∙ long;
        each = λ q none small. each_replaced (λ q flyer. IsFlyerAt m q (after q) flyer) flyers i flyer (omega (arith, long, low)) is
            (λ k none other inside. subst (λ place. IsFlyerAt m k place (slice_index_or flyers k none)) (sym (others k other)) (are.each k none (omega (arith, inside, long)))) q none (omega (arith, small, long));
      }
