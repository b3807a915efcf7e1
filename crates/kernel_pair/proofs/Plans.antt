-- Lemmas on the frame and step of a unit whose next event is known.
use Rattle.std.proofs.Common.{◌≡◌, ℕ, suc, ◌+◌, ◌-◌, ◌<◌, ◌≤◌, Bool, true, false, ◌&&◌, refl, subst, arith}
use Rattle.std.specs.Prelude.{Option, Some, None, is_some, nat_lt, nat_eq, if◌then◌else◌}
use Rattle.std.proofs.lemmas.Bool.Decides.{nat_tests}
use Rattle.scram_types.specs.Lookups.{proc_id}
use Rattle.fail_stop.specs.Flights.{Flight}
use Rattle.fail_stop.specs.Events.{may_note}
use Rattle.fail_stop.proofs.Plans.{is_less, not_less}
use Rattle.kernel_pair.specs.declared.events.UnitHalt.{UnitHalt}
use Rattle.kernel_pair.specs.declared.events.PairEvent.{PairEvent}
use Rattle.kernel_pair.specs.declared.events.PairEvent.TheVariants.{Fly, Note, Store, Ready, Meet, Release, Stop}
use Rattle.kernel_pair.specs.Pairs.{KernelUnit, is_at_halt, halts_below, may_meet, next_by, next_going, plan_noted, plan_unit, stops_at}
use Rattle.kernel_pair.specs.Kept.{IsNamed}

-- A unit in frame `k` after `j` steps has made `n` steps after its notes. Frame `k` is not the last frame.
pub record Behind (m : Flight) (k j n : ℕ) : Type 0 where
  pub at : j ≡ m.procs + n
  pub more : suc k < m.frames

-- The event is an event of unit `u`.
abbrev pub IsOf : ℕ → PairEvent → Type 0
IsOf u (Fly p v) = ⊥
IsOf u (Note v p) = v ≡ u
IsOf u (Store v i) = v ≡ u
IsOf u (Ready v) = v ≡ u
IsOf u (Meet v) = v ≡ u
IsOf u (Release v) = v ≡ u
IsOf u (Stop v) = v ≡ u

-- Unit `u`, in frame `k` after `j` steps, is at a place at which the event may be next.
abbrev pub Planned : Flight → ℕ → ℕ → ℕ → ℕ → (ℕ → ℕ) → Bool → PairEvent → Type 0
Planned m u k j ready ends stops (Fly p v) = ⊥
Planned m u k j ready ends stops (Note v p) = (j < m.procs) × (p ≡ proc_id j) × (may_note m j k (ends j) ≡ true)
Planned m u k j ready ends stops (Store v i) = (i < 20) × Behind m k j i
Planned m u k j ready ends stops (Ready v) = Behind m k j 20
Planned m u k j ready ends stops (Meet v) = (may_meet k ready ≡ true) × Behind m k j 21
Planned m u k j ready ends stops (Release v) = Behind m k j 22
Planned m u k j ready ends stops (Stop v) = stops ≡ true

-- The event is an event of unit `u`, and the unit is at a place at which the event may be next.
abbrev PlansOwn : Flight → ℕ → ℕ → ℕ → ℕ → (ℕ → ℕ) → Bool → PairEvent → Type 0
PlansOwn m u k j ready ends stops e = IsOf u e × Planned m u k j ready ends stops e

module _ (m : Flight) (u k j ready : ℕ) (ends : ℕ → ℕ) (e : PairEvent) where
  same_step : {n : ℕ} → nat_eq j n ≡ true → j ≡ n
  same_step here = grind (arith, nat_tests)

  behind_by : (a b c d g : Bool) → nat_lt j (m.procs + 20) ≡ a → nat_eq j (m.procs + 20) ≡ b → nat_eq j (m.procs + 21) ≡ c → may_meet k ready ≡ d → nat_eq j (m.procs + 22) ≡ g
      → m.procs ≤ j → suc k < m.frames
      → (if a then Some (Store u (j - m.procs)) else (if b then Some (Ready u) else (if c then (if d then Some (Meet u) else None) else (if g then Some (Release u) else None)))) ≡ Some e
      → PlansOwn m u k j ready ends false e
  behind_by true b c d g ia ib ic id ig low more i =
      let same : Store u (j - m.procs) ≡ e = cc in
      let high = is_less j (m.procs + 20) ia in
      subst (λ (x : PairEvent). PlansOwn m u k j ready ends false x) same (refl, (omega arith, record { at = omega arith; more = more }))
  behind_by false true c d g ia ib ic id ig low more i =
      let same : Ready u ≡ e = cc in subst (λ (x : PairEvent). PlansOwn m u k j ready ends false x) same (refl, record { at = same_step ib; more = more })
  behind_by false false true true g ia ib ic id ig low more i =
      let same : Meet u ≡ e = cc in subst (λ (x : PairEvent). PlansOwn m u k j ready ends false x) same (refl, (id, record { at = same_step ic; more = more }))
  behind_by false false true false g ia ib ic id ig low more i = cc
  behind_by false false false d true ia ib ic id ig low more i =
      let same : Release u ≡ e = cc in subst (λ (x : PairEvent). PlansOwn m u k j ready ends false x) same (refl, record { at = same_step ig; more = more })
  behind_by false false false d false ia ib ic id ig low more i = cc

  planned_by : (a b c : Bool) → nat_lt j m.procs ≡ a → may_note m j k (ends j) ≡ b → nat_lt (suc k) m.frames ≡ c
      → (if a then (if b then Some (Note u (proc_id j)) else None) else (if c then plan_noted m u k j ready else None)) ≡ Some e → PlansOwn m u k j ready ends false e
  planned_by true true c ia ib ic i =
      let same : Note u (proc_id j) ≡ e = cc in subst (λ (x : PairEvent). PlansOwn m u k j ready ends false x) same (refl, (is_less j m.procs ia, refl, ib))
  planned_by true false c ia ib ic i = cc
  planned_by false b true ia ib ic i =
      behind_by (nat_lt j (m.procs + 20)) (nat_eq j (m.procs + 20)) (nat_eq j (m.procs + 21)) (may_meet k ready) (nat_eq j (m.procs + 22)) refl refl refl refl refl (not_less j m.procs ia) (is_less (suc k) m.frames ic) i
  planned_by false b false ia ib ic i = cc

  planned : plan_unit m u k j ready ends ≡ Some e → PlansOwn m u k j ready ends false e
  planned i = planned_by (nat_lt j m.procs) (may_note m j k (ends j)) (nat_lt (suc k) m.frames) refl refl refl i

  going_by : (stops : Bool) → (if stops then Some (Stop u) else plan_unit m u k j ready ends) ≡ Some e → PlansOwn m u k j ready ends stops e
  going_by true i = let same : Stop u ≡ e = cc in subst (λ (x : PairEvent). PlansOwn m u k j ready ends true x) same (refl, refl)
  going_by false i = planned i

-- Event `e` is the next event of unit `u`, which has not halted.
pub record Goes (m : Flight) (halt : Option UnitHalt) (u : ℕ) (x : KernelUnit) (ready : ℕ) (ends : ℕ → ℕ) (e : PairEvent) : Type 0 where
  pub some : 0 < m.frames
  pub going : x.stopped ≡ None
  pub of : IsOf u e
  pub at : Planned m u x.frame x.step ready ends (stops_at m halt u x.frame x.step) e

pub goes : (m : Flight) (halt : Option UnitHalt) (u : ℕ) (x : KernelUnit) (ready : ℕ) (ends : ℕ → ℕ) (e : PairEvent) → next_by m halt u x ready ends ≡ Some e → Goes m halt u x ready ends e
goes m halt u x ready ends e i = by_halt (nat_eq m.frames 0) x.stopped refl refl i
  where
    positive : (n : ℕ) → nat_eq n 0 ≡ false → 0 < n
    positive n l = grind (arith, nat_tests)

    by_halt : (z : Bool) (o : Option ℕ) → nat_eq m.frames 0 ≡ z → x.stopped ≡ o
        → (if z then None else (if is_some o then None else next_going m u x ready ends (stops_at m halt u x.frame x.step))) ≡ Some e → Goes m halt u x ready ends e
    by_halt true o iz io i = cc
    by_halt false (Some t) iz io i = cc
    by_halt false None iz io i = let own = going_by m u x.frame x.step ready ends e (stops_at m halt u x.frame x.step) i in record { some = positive m.frames iz; going = io; of = own.0; at = own.1 }

-- A unit that halts is the unit that the halt names.
pub named : (m : Flight) (halt : Option UnitHalt) (u k j : ℕ) → stops_at m halt u k j ≡ true → IsNamed halt u
named m None u k j e = cc
named m (Some h) u k j e = record { named = h; is = refl; unit = left u h.unit (nat_lt h.frame m.frames && (nat_lt h.step (halts_below m h.frame) && is_at_halt m h k j)) e }
  where
    left : (a b : ℕ) (c : Bool) → (nat_eq a b && c) ≡ true → a ≡ b
    left a b true e = grind (arith, nat_tests)
    left a b false e = grind (arith, nat_tests)
