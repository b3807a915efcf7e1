-- The numbers of an event that is the next of its actor are in range.
use Rattle.std.proofs.Common.{◌≡◌, ℕ, ◌+◌, ◌<◌, ◌≤◌, refl, arith}
use Rattle.std.specs.Prelude.{Option, Some, None, nat_lt}
use Rattle.bank_words.specs.declared.events.Event.{Event}
use Rattle.bank_words.specs.declared.events.Event.TheVariants.{Start, Look, Store, Flip, Done, Halt, KNote, KStore, Release}
use Rattle.fail_stop.specs.Events.{IsNext, Places, ReleaseWord, Word, halts_at, next_from, next_of}
use Rattle.fail_stop.specs.Flights.{Flies, Flight}
use Rattle.fail_stop.specs.Kept.{IsPlaced, Kept, last_step}
use Rattle.fail_stop.proofs.Plans.{Mid, gate, is_less, mid, next_kstore, next_note, plan_store}
use Rattle.event_core.specs.declared.places.Place.{Place as KeptPlace}
use Rattle.event_core.specs.declared.places.Place.TheVariants as kept
use Rattle.event_core.specs.declared.places.Places.{Places as KeptPlaces}
use Rattle.event_core.specs.Places.{CanGoOn, kept_place, machine_place, machine_places}
use Rattle.event_core.specs.Stores.{CanMove, IsInside}

module _ (m : Flight) (at : Places) (words : Word → ℕ) (few : m.procs ≤ 8) (narrow : m.width ≤ 64) where
  acting : (p : ℕ) (e : Event) → next_of m at words p ≡ Some e → (p < m.procs) × (next_from m p (words ReleaseWord) (at.proc p) ≡ Some e)
  acting p e i = let g = gate (nat_lt p m.procs) (next_from m p (words ReleaseWord) (at.proc p)) e i in (is_less p m.procs g.0, g.1)

  actor_low : (p : ℕ) (e : Event) → next_of m at words p ≡ Some e → p < 8
  actor_low p e i = let a = acting p e i in omega (arith, a.0, few)

  pub inside : (e : Event) → IsNext m at words e → IsInside e
  inside (Start p) i = actor_low p.0 (Start p) i
  inside (Look p q) i = actor_low p.0 (Look p q) i
  inside (Store p x) i =
      let a = acting p.0 (Store p x) i in
      let b : Mid m p.0 (at.proc p.0) (Store p x) = mid m p.0 (words ReleaseWord) (at.proc p.0) (Store p x) a.1 (λ e. cc) in
      let c = plan_store m p.0 b.n x (halts_at m b.n (m.halt p.0 b.f)) b.next in
      (omega (arith, a.0, few), omega (arith, c.2, narrow))
  inside (Flip p) i = actor_low p.0 (Flip p) i
  inside (Done p) i = actor_low p.0 (Done p) i
  inside (Halt p) i = actor_low p.0 (Halt p) i
  inside (KNote p) i = let n = next_note m at words p.0 i in omega (arith, n.0, few)
  inside (KStore x) i = (next_kstore m at words x i).2
  inside Release i = tt

last_low : (m : Flight) (o : Option ℕ) → ((s : ℕ) → o ≡ Some s → s ≤ m.width + 1) → last_step m o ≤ m.procs + 2 + m.width
last_low m None few = omega arith
last_low m (Some s) few = let low = few s refl in omega (arith, low)

goes_on : (m : Flight) (k j p : ℕ) (place : KeptPlace) → Flies m → m.procs ≤ 8 → m.width ≤ 64 → k < 20000 → IsPlaced m k j p (machine_place place) → CanGoOn place
goes_on m k j p (kept.At f n) y few narrow low is =
    let last = last_low m (m.halt p f) (λ s e. y.step p f s e) in
    (omega (arith, is.high, low), omega (arith, is.within, last, few, narrow))
goes_on m k j p (kept.Halted h) y few narrow low is = omega (arith, is.high, low)

module _ (m : Flight) (places : KeptPlaces) (words : Word → ℕ) (few : m.procs ≤ 8) (narrow : m.width ≤ 64) (y : Flies m) (k : Kept m (machine_places places) words) (low : places.frame < 20000) where
  proc_goes : (p : ℕ) (e : Event) → next_of m (machine_places places) words p ≡ Some e → CanGoOn (kept_place places.procs p)
  proc_goes p e i =
      let a = acting m (machine_places places) words few narrow p e i in
      goes_on m places.frame places.step p (kept_place places.procs p) y few narrow low (k.placed p a.0)

  pub can_move : (e : Event) → IsNext m (machine_places places) words e → CanMove places e
  can_move (Start p) i = proc_goes p.0 (Start p) i
  can_move (Look p q) i = proc_goes p.0 (Look p q) i
  can_move (Store p x) i = proc_goes p.0 (Store p x) i
  can_move (Flip p) i = proc_goes p.0 (Flip p) i
  can_move (Done p) i = proc_goes p.0 (Done p) i
  can_move (Halt p) i = proc_goes p.0 (Halt p) i
  can_move (KNote p) i = let n = next_note m (machine_places places) words p.0 i in omega (arith, n.0, n.1, few)
  can_move (KStore x) i = let n = next_kstore m (machine_places places) words x i in omega (arith, n.1, n.2, few)
  can_move Release i = omega (arith, low)
