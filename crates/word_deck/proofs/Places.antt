-- Lemmas on the change of a processor's place by a turn.
use Rattle.std.proofs.Common.{◌≡◌, ◌↔◌, ℕ, ◌<◌, ◌≤◌, sym, refl, subst, arith, Bool, true, false, not}
use Rattle.std.specs.Prelude.{Option, Some, None, is_some, if◌then◌else◌}
use Rattle.std.proofs.lemmas.Bool.Decides.{nat_tests}
use Rattle.app_model.specs.declared.racks.Rack.{Rack}
use Rattle.fail_stop.specs.declared.flyers.Flyer.{Flyer}
use Rattle.fail_stop.specs.declared.flyers.Unit.{Unit as HeldUnit}
use Rattle.fail_stop.specs.declared.flyers.Unit.TheVariants.{Up, Down}
use Rattle.fail_stop.specs.Ends.{IsDone}
use Rattle.fail_stop.specs.Events.{At, Halted, Place, after_frame, frame_of, is_halted}
use Rattle.fail_stop.specs.Flights.{Flight}
use Rattle.fail_stop.specs.Flyers.{HasSpare, IsUnitAt, flyer_halted, flyer_started, spare_started}
use Rattle.fail_stop.proofs.FlyersAt.{unit_begun, unit_stopped}
use Rattle.word_table.specs.Actors.{IsInFlight, Waits, frame_awaited, restart_or, steps_of}
use Rattle.word_deck.specs.Crews.{comes_back, is_done, tries_after}
use Rattle.word_deck.specs.declared.turns.Turn.{Turn}
use Rattle.word_deck.specs.declared.turns.Turn.TheVariants.{Worked, NotYet, Finished}

-- A processor has flown all frames or has halted for good if and only if `is_done` is `true`.

late : (h : ℕ) (o : Option ℕ) → not (comes_back h o) ≡ true → (r : ℕ) → o ≡ Some r → r ≤ h
late h None e r s = cc
late h (Some q) e r s = let same : q ≡ r = cc in grind (arith, nat_tests)

early : (h : ℕ) (o : Option ℕ) → ((r : ℕ) → o ≡ Some r → r ≤ h) → not (comes_back h o) ≡ true
early h None l = refl
early h (Some q) l = let m = l q refl in grind (arith, nat_tests)

pub done_by : (m : Flight) (p : ℕ) (place : Place) → is_done m p place ≡ true → IsDone m p place
done_by m p (At f n) e = grind (arith, nat_tests)
done_by m p (Halted h) e = late h (m.restart p) e

pub by_done : (m : Flight) (p : ℕ) (place : Place) → IsDone m p place → is_done m p place ≡ true
by_done m p (At f n) e = grind (arith, nat_tests)
by_done m p (Halted h) e = early h (m.restart p) e

-- A processor between two turns that has not flown all frames and has not halted for good waits for a release.

comes : (h : ℕ) (o : Option ℕ) → not (comes_back h o) ≡ false → h < restart_or h o
comes h None e = cc
comes h (Some r) e = grind (arith, nat_tests)

pub waits : (m : Flight) (p : ℕ) (place : Place) → is_done m p place ≡ false → steps_of place ≡ 0 → IsInFlight m place → Waits m p place
waits m p (At f n) e s l = (s, let ne : f ≡ m.frames → ⊥ = (λ same. grind (arith, nat_tests)) in let le = l.0 in grind (arith, ne, le))
waits m p (Halted h) e s l = comes h (m.restart p) e

-- A processor that has halted and waits for its restart has its spare rack.

has_restart : {R : Type 0} (h : ℕ) (o : Option ℕ) (spare : Option R) → h < restart_or h o → ((r : ℕ) → o ≡ Some r → h < r → is_some spare ≡ true) → is_some spare ≡ true
has_restart h None spare l s = absurd (omega (arith, l))
has_restart h (Some r) spare l s = s r refl l

pub spare_there : {R : Type 0} (m : Flight) (p : ℕ) (place : Place) (spare : Option R) → Waits m p place → is_halted place ≡ true → HasSpare m p (frame_of place) spare → is_some spare ≡ true
spare_there m p (At f n) spare w e s = cc
spare_there m p (Halted h) spare w e s = has_restart h (m.restart p) spare w s

none_later : {R : Type 0} (h : ℕ) (o : Option ℕ) (spare : Option R) → h < restart_or h o → (r : ℕ) → o ≡ Some r → restart_or h o < r → is_some spare ≡ true
none_later h None spare l r e more = cc
none_later h (Some q) spare l r e more = let same : q ≡ r = cc in absurd (omega (arith, same, more))

-- After a start, a processor with a later restart has a spare rack. A processor that had halted no longer needs one.
pub spare_begun : {X : Type 0} {Y : X → Type 0} (m : Flight) (p q : ℕ) (place : Place) (unit : HeldUnit X Y) (spare : Option (Rack X Y)) → Waits m p place → IsUnitAt q place unit → HasSpare m p (frame_of place) spare
    → HasSpare m p (frame_awaited m p place) (spare_started unit spare)
spare_begun m p q (At f n) (Up live) spare w is s = s
spare_begun m p q (At f n) (Down halted) spare w is s = let down = is.down in cc
spare_begun m p q (Halted h) unit spare w is s = none_later h (m.restart p) (spare_started unit spare) w

-- Lemmas on the unit of a processor whose seat has moved.
pub started_there : {X : Type 0} {Y : X → Type 0} (p q : ℕ) (before after : Place) (was flyer : Flyer X Y) (f n : ℕ) → flyer ≡ flyer_started was → q ≡ p → after ≡ At f n → IsUnitAt p before was.unit
    → (is_halted before ≡ true → is_some was.spare ≡ true) → IsUnitAt q after flyer.unit
started_there {X = X} {Y = Y} p q before after was flyer f n made same at is some =
    rw (same, at) (subst (λ (x : Flyer X Y). IsUnitAt p (At f n) x.unit) (sym made) (unit_begun p before was.unit was.spare f n is some))

pub halted_there : {X : Type 0} {Y : X → Type 0} (p q : ℕ) (before after : Place) (was flyer : Flyer X Y) (f : ℕ) → flyer ≡ flyer_halted f was → q ≡ p → f ≡ frame_of before → after ≡ Halted f
    → is_halted before ≡ false → IsUnitAt p before was.unit → IsUnitAt q after flyer.unit
halted_there {X = X} {Y = Y} p q before after was flyer f made same frame at flies is =
    rw (same, at) (subst (λ (x : Flyer X Y). IsUnitAt p (Halted f) x.unit) (sym made) (rw frame (unit_stopped p before was.unit is flies)))

-- Lemmas on the result of a turn in which a frame is flown.

pub begins : (f : ℕ) (o : Option ℕ) → steps_of (after_frame f o) ≡ 0
begins f None = refl
begins f (Some s) = refl

finished_if : (b : Bool) (turn : Turn) → turn ≡ (if b then Finished else Worked) → (turn ≡ Finished) ↔ (b ≡ true)
finished_if true turn e = (λ f. refl, λ f. e)
finished_if false turn e = (λ f. absurd (cc), λ f. absurd (cc))

pub finished_by : (m : Flight) (p : ℕ) (place : Place) (turn : Turn) → turn ≡ (if is_done m p place then Finished else Worked) → (turn ≡ Finished) ↔ IsDone m p place
finished_by m p place turn e = let f = finished_if (is_done m p place) turn e in (λ t. done_by m p place (f.0 t), λ d. f.1 (by_done m p place d))

pub tried_by : (b : Bool) (turn : Turn) (tries : ℕ) → turn ≡ (if b then Finished else Worked) → tries_after turn tries ≡ tries
tried_by true turn tries e = rw e refl
tried_by false turn tries e = rw e refl

-- A turn that finds nothing ready is not `Finished`.
pub still_flies : (m : Flight) (p : ℕ) (before after : Place) → is_done m p before ≡ false → after ≡ before → (NotYet ≡ Finished) ↔ IsDone m p after
still_flies m p before after e same = (λ turn. absurd (cc), λ done. let is : is_done m p after ≡ true = by_done m p after done in absurd (cc (e, is, same)))
