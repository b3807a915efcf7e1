-- After a processor in flight has made a frame, it is at its next place. It has a spare rack if a restart is still to
-- come.
use Rattle.std.proofs.Common.{◌≡◌, ◌∙◌, ℕ, suc, ◌<◌, refl, ap, sym, subst, arith, Bool, true, false, List}
use Rattle.std.specs.Prelude.{Option, Some, None, is_some, slice_set, if◌then◌else◌}
use Rattle.app_model.specs.declared.racks.Rack.{Rack}
use Rattle.fail_stop.specs.declared.flyers.Flyer.{Flyer}
use Rattle.fail_stop.specs.declared.flyers.Unit.{Unit as HeldUnit}
use Rattle.fail_stop.specs.declared.flyers.Unit.TheVariants.{Up, Down}
use Rattle.fail_stop.specs.Events.{Place, At, Halted, after_frame, is_halted}
use Rattle.fail_stop.specs.Flights.{Flight}
use Rattle.fail_stop.specs.Flyers.{AreFlyersAt, HasSpare, IsFlyerAt, IsUnitAt, flyer_started, is_down, spare_started, unit_proc, unit_started}
use Rattle.fail_stop.proofs.FlyersAt.{flyers_with, unit_begun, unit_stopped, unit_up}
use Rattle.fail_stop.proofs.Moves.{nat_eq_self, nat_eq_other}
use Rattle.kernel_pair.specs.declared.events.UnitHalt.{UnitHalt}
use Rattle.kernel_pair.specs.declared.events.PairEvent.TheVariants.{Fly}
use Rattle.kernel_pair.specs.Cores.{flyer_after, places_in}
use Rattle.kernel_pair.specs.Pairs.{Pair, frame_to_make, next_made, pair_after}
use Rattle.fail_stop.proofs.ProcessorEvents.{some_same}
use Rattle.kernel_pair.proofs.Frames.{restart_past_is}
use Rattle.scram_types.specs.declared.ids.ProcId.{ProcId}

module _ {X : Type 0} {Y : X → Type 0} (m : Flight) (p f : ℕ) where
  -- A processor that has halted and makes a further frame has a spare rack before it starts.
  pub has_spare : (place : Place) (flyer : Flyer X Y) → IsFlyerAt m p place flyer → frame_to_make (m.restart p) place ≡ Some f → is_halted place ≡ true → is_some flyer.spare ≡ true
  has_spare (At g n) flyer is makes halted = cc
  has_spare (Halted h) flyer is makes halted = let r = restart_past_is (m.restart p) h f makes in is.spare f r.0 r.1

  pub begun_at : (place : Place) (flyer : Flyer X Y) → IsFlyerAt m p place flyer → frame_to_make (m.restart p) place ≡ Some f → IsUnitAt p (At f 0) (unit_started flyer.unit flyer.spare)
  begun_at place flyer is makes = unit_begun p place flyer.unit flyer.spare f 0 is.unit (has_spare place flyer is makes)

  -- After a start, the processor has the spare rack for any restart that is still to come. A processor that had
  -- halted has no later restart.
  pub spare_begun : (place : Place) (flyer : Flyer X Y) → IsFlyerAt m p place flyer → frame_to_make (m.restart p) place ≡ Some f → HasSpare m p f (spare_started flyer.unit flyer.spare)
  spare_begun (At g n) flyer is makes = by_unit flyer.unit refl
    where
      same : g ≡ f
      same = cc

      by_unit : (unit : HeldUnit X Y) → flyer.unit ≡ unit → HasSpare m p f (spare_started flyer.unit flyer.spare)
      by_unit (Up live) i = rw i (λ r e low. is.spare r e (subst (λ (x : ℕ). x < r) (sym same) low))
      by_unit (Down halted) i = let down = is.unit.down in let is_it : is_down flyer.unit ≡ true = rw i refl in cc
  spare_begun (Halted h) flyer is makes =
      let there = restart_past_is (m.restart p) h f makes in
      λ r e low. let same : f ≡ r = some_same f r (m.restart p) there.0 e in absurd (omega arith)

  flown_by : (o : Option ℕ) (flyer : Flyer X Y) → is_down flyer.unit ≡ false → unit_proc flyer.unit ≡ p → HasSpare m p f flyer.spare → IsFlyerAt m p (after_frame f o) (flyer_after o f flyer)
  flown_by None flyer up is has = record { unit = unit_up p (At (suc f) 0) flyer.unit refl up is; spare = λ r e low. has r e (omega arith) }
  flown_by (Some s) flyer up is has = record { unit = unit_stopped p (At f 0) flyer.unit (unit_up p (At f 0) flyer.unit refl up is) refl; spare = has }

  -- After its start and its draft, a processor is at the beginning of the next frame or has halted in frame `f`.
  pub flown : (place : Place) (old begun drafted new : Flyer X Y) → IsFlyerAt m p place old → frame_to_make (m.restart p) place ≡ Some f → begun ≡ flyer_started old
      → is_down drafted.unit ≡ false → unit_proc drafted.unit ≡ unit_proc begun.unit → drafted.spare ≡ begun.spare → new ≡ flyer_after (m.halt p f) f drafted → IsFlyerAt m p (after_frame f (m.halt p f)) new
  flown place old begun drafted new is makes begins up same spare ends =
      let unit : IsUnitAt p (At f 0) begun.unit = subst (λ (x : Flyer X Y). IsUnitAt p (At f 0) x.unit) (sym begins) (begun_at place old is makes) in
      let has : HasSpare m p f begun.spare = subst (λ (x : Flyer X Y). HasSpare m p f x.spare) (sym begins) (spare_begun place old is makes) in
      subst (λ (x : Flyer X Y). IsFlyerAt m p (after_frame f (m.halt p f)) x) (sym ends)
      (flown_by (m.halt p f) drafted up (same ∙ unit.number) (subst (λ (rack : Option (Rack X Y)). HasSpare m p f rack) (sym spare) has))

module _ (m : Flight) (halt : Option UnitHalt) (s : Pair) (p : ProcId) (u f : ℕ) (makes : frame_to_make (m.restart p.0) (s.proc p.0).place ≡ Some f) where
  place_made : places_in (pair_after m halt s (Fly p u)) p.0 ≡ after_frame f (m.halt p.0 f)
  place_made =
      ap (λ (b : Bool). (if b then next_made m p.0 (frame_to_make (m.restart p.0) (s.proc p.0).place) (s.proc p.0) else s.proc p.0).place) (nat_eq_self p.0)
      ∙ ap (λ (o : Option ℕ). (next_made m p.0 o (s.proc p.0)).place) makes

  place_kept : (q : ℕ) → (q ≡ p.0 → ⊥) → places_in (pair_after m halt s (Fly p u)) q ≡ places_in s q
  place_kept q other = ap (λ (b : Bool). (if b then next_made m p.0 (frame_to_make (m.restart p.0) (s.proc p.0).place) (s.proc p.0) else s.proc q).place) (nat_eq_other q p.0 other)

  -- A frame of one processor leaves the other processors at their places.
  pub flyers_after : {X : Type 0} {Y : X → Type 0} (flyers : List (Flyer X Y)) (flyer : Flyer X Y) → AreFlyersAt m (places_in s) flyers → p.0 < 8 → IsFlyerAt m p.0 (after_frame f (m.halt p.0 f)) flyer
      → AreFlyersAt m (places_in (pair_after m halt s (Fly p u))) (slice_set flyers p.0 flyer)
  flyers_after {X} {Y} flyers flyer are low is =
      flyers_with m (places_in s) (places_in (pair_after m halt s (Fly p u))) flyers p.0 flyer are low (subst (λ (place : Place). IsFlyerAt m p.0 place flyer) (sym place_made) is) place_kept
