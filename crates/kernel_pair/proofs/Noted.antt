-- Lemmas on the number of frames in which a unit has noted every processor, before and after an event.
use Rattle.std.proofs.Common.{◌≡◌, ◌∙◌, ℕ, suc, ◌<◌, ◌≤◌, refl, ap, sym, arith}
use Rattle.std.specs.Prelude.{Option, Some, nat_le, if◌then◌else◌}
use Rattle.std.proofs.lemmas.Bool.Decides.{nat_tests}
use native.Mathlib.Decide.{ℕ_discrete}
use Rattle.scram_types.specs.declared.ids.ProcId.{ProcId}
use Rattle.fail_stop.specs.Flights.{Flight}
use Rattle.fail_stop.proofs.Moves.{nat_eq_self, nat_eq_other}
use Rattle.kernel_pair.specs.declared.events.UnitHalt.{UnitHalt}
use Rattle.kernel_pair.specs.declared.events.PairEvent.{PairEvent}
use Rattle.kernel_pair.specs.declared.events.PairEvent.TheVariants.{Fly, Note, Store, Ready, Meet, Release, Stop}
use Rattle.kernel_pair.specs.Cores.{IsQuiet}
use Rattle.kernel_pair.specs.Kept.{IsUnit, PairKept}
use Rattle.kernel_pair.specs.Laws.{noted_frames}
use Rattle.kernel_pair.specs.Pairs.{IsPairNext, KernelUnit, Pair, halt_frame, next_unit, noted, other_unit, pair_after, readied, released, stepped, stored, halted_unit, with_at}
use Rattle.kernel_pair.proofs.Plans.{Behind, Goes, goes}

all_noted : (n j k : ℕ) → n ≤ j → (if nat_le n j then suc k else k) ≡ suc k
all_noted n j k l = grind (arith, nat_tests)

none_noted : (n k : ℕ) → 0 < n → (if nat_le n 0 then suc k else k) ≡ k
none_noted n k l = grind (arith, nat_tests)

some_noted : (n j k : ℕ) → j < n → (if nat_le n j then suc k else k) ≡ k
some_noted n j k l = grind (arith, nat_tests)

-- If unit `v` is replaced by a unit with the same number of noted frames, then the number of noted frames of each
-- unit is unchanged.
with_same : (m : Flight) (s : Pair) (v : ℕ) (x : KernelUnit) → noted_frames m x ≡ noted_frames m (s.unit v) → (u : ℕ) → noted_frames m (with_at s.unit v x u) ≡ noted_frames m (s.unit u)
with_same m s v x is u = by_place (ℕ_discrete u v)
  where
    by_place : Dec (u ≡ v) → noted_frames m (with_at s.unit v x u) ≡ noted_frames m (s.unit u)
    by_place (yes e) = rw (e, nat_eq_self v) is
    by_place (no d) = rw (nat_eq_other u v d) refl

module _ (m : Flight) (halt : Option UnitHalt) (s : Pair) where
  goes_at : (u : ℕ) (e : PairEvent) → next_unit m halt s u ≡ Some e → Goes m halt u (s.unit u) (s.unit (other_unit u)).ready (λ p. (s.proc p).end) e
  goes_at u e i = goes m halt u (s.unit u) (s.unit (other_unit u)).ready (λ p. (s.proc p).end) e i

  -- A step after all notes of a frame leaves the number of noted frames unchanged.
  behind_same : (u n : ℕ) (x : KernelUnit) → Behind m (s.unit u).frame (s.unit u).step n → x.frame ≡ (s.unit u).frame → x.step ≡ suc (s.unit u).step → noted_frames m x ≡ noted_frames m (s.unit u)
  behind_same u n x b frame step =
      let at = b.at in
      all_noted m.procs x.step x.frame (omega (arith, at, step)) ∙ ap (λ (k : ℕ). suc k) frame ∙ sym (all_noted m.procs (s.unit u).step (s.unit u).frame (omega (arith, at)))

  pub noted_same : 0 < m.procs → (e : PairEvent) → IsPairNext m halt s e → IsQuiet e → (u : ℕ) → noted_frames m ((pair_after m halt s e).unit u) ≡ noted_frames m (s.unit u)
  noted_same some (Fly p v) next i u = absurd i
  noted_same some (Note v p) next i u = absurd i
  noted_same some (Store v d) next i u =
      let g : Goes m halt v (s.unit v) (s.unit (other_unit v)).ready (λ p. (s.proc p).end) (Store v d) = goes_at v (Store v d) next.1 in
      with_same m s v (stored m d (s.unit v)) (behind_same v d (stored m d (s.unit v)) g.at.1 refl refl) u
  noted_same some (Ready v) next i u =
      let g : Goes m halt v (s.unit v) (s.unit (other_unit v)).ready (λ p. (s.proc p).end) (Ready v) = goes_at v (Ready v) next.1 in
      with_same m s v (readied (s.unit v)) (behind_same v 20 (readied (s.unit v)) g.at refl refl) u
  noted_same some (Meet v) next i u =
      let g : Goes m halt v (s.unit v) (s.unit (other_unit v)).ready (λ p. (s.proc p).end) (Meet v) = goes_at v (Meet v) next.1 in
      with_same m s v (stepped (s.unit v)) (behind_same v 21 (stepped (s.unit v)) g.at.1 refl refl) u
  noted_same some (Release v) next i u =
      let g : Goes m halt v (s.unit v) (s.unit (other_unit v)).ready (λ p. (s.proc p).end) (Release v) = goes_at v (Release v) next.1 in
      let b = g.at in
      let at = b.at in
      with_same m s v (released (s.unit v)) (none_noted m.procs (suc (s.unit v).frame) some ∙ sym (all_noted m.procs (s.unit v).step (s.unit v).frame (omega (arith, at)))) u
  noted_same some (Stop v) next i u = with_same m s v (halted_unit (halt_frame halt) (s.unit v)) refl u

  -- Facts about a unit whose next event is a note. The unit is in a frame of the flight, and it has not yet noted all
  -- processors in that frame.
  pub record Noting (u : ℕ) : Type 0 where
    pub low : (s.unit u).step < m.procs
    pub below : (s.unit u).frame < m.frames
    pub before : noted_frames m (s.unit u) ≡ (s.unit u).frame

  pub noting : PairKept m halt s → (u : ℕ) (p : ProcId) → IsPairNext m halt s (Note u p) → Noting u
  noting k u p next =
      let g : Goes m halt u (s.unit u) (s.unit (other_unit u)).ready (λ p. (s.proc p).end) (Note u p) = goes_at u (Note u p) next.1 in
      let x : IsUnit m halt u (s.unit u) = k.units u next.0 in
      record { low = g.at.0; below = x.below g.some; before = some_noted m.procs (s.unit u).step (s.unit u).frame g.at.0 }

  -- After a note, the unit that has made it is as `noted` defines.
  pub unit_after : (u : ℕ) (p : ProcId) → (pair_after m halt s (Note u p)).unit u ≡ noted p.0 (s.proc p.0) (s.unit u)
  unit_after u p = rw (nat_eq_self u) refl

  -- A unit whose next event is a store has noted every processor.
  pub storing : (u i : ℕ) → IsPairNext m halt s (Store u i) → noted_frames m (s.unit u) ≡ suc (s.unit u).frame
  storing u i next =
      let g : Goes m halt u (s.unit u) (s.unit (other_unit u)).ready (λ p. (s.proc p).end) (Store u i) = goes_at u (Store u i) next.1 in
      let b = g.at.1 in
      let at = b.at in
      all_noted m.procs (s.unit u).step (s.unit u).frame (omega (arith, at))
