-- The events of every schedule are events of the specification.
use Rattle.std.proofs.Common.{ℕ, ◌≡◌, ◌<◌, ◌+◌, ◌-◌, ◌∙◌, Bool, true, false, List, [], ◌∷◌, Some, None, arith, sym, ap, inl, inr}
use Rattle.std.specs.Prelude.{nat_eq, nat_le, nat_lt, if◌then◌else◌}
use Rattle.scram_types.specs.Lookups.{proc_id}
use Rattle.scram_types.specs.Scripts.{ScriptParts}
use Rattle.scram_types.specs.Specification.{Parts}
use Rattle.scram_types.specs.declared.ids.ProcId.{ProcId}
use Rattle.bank_words.specs.declared.events.Event.{Event}
use Rattle.bank_words.specs.declared.events.Event.TheVariants.{Start, Look, Store, Flip, Done, Halt, KNote, KStore, Release}
use Rattle.event_core.specs.Replays.{IsReplay}
use Rattle.fail_stop.specs.Events.{IsNext, Places, ReleaseWord, Word, halts_at, next_from, next_of, plan_step}
use Rattle.fail_stop.specs.Flights.{Flight}
use Rattle.fail_stop.specs.Schedules.{IsSchedule, Machine, happened, opening}
use Rattle.fail_stop.specs.ScriptFlights.{flight_of}
use Rattle.fail_stop.proofs.Plans.{Mid, fork, gate, is_less, mid, next_kstore, next_note, plan_look, plan_store}
use Rattle.schedule_replay.specs.Events.{HasEvent, HasEvents}
use Rattle.schedule_replay.proofs.TurnsKnown.{none, with_one}

looked_at : (m : Flight) (p n : ℕ) (q : ProcId) → plan_step m p n ≡ Some (Look (proc_id p) q) → q.0 ≡ n - 1
looked_at m p n q h = elim (fork (nat_eq n 0) (Some (Start (proc_id p))) _ (Look (proc_id p) q) h) [
  | inl start ↦ absurd (let e = start.1 in cc)
  | inr more ↦ (elim (fork (nat_le n m.procs) (Some (Look (proc_id p) (proc_id (n - 1)))) _ (Look (proc_id p) q) more.1) [
    | inl look ↦ (let e = look.1 in let same : proc_id (n - 1) ≡ q = cc in sym (ap (λ (r : ProcId). r.0) same))
    | inr later ↦ absurd (no_store (nat_lt n (m.procs + 1 + m.width)) (nat_eq n (m.procs + 1 + m.width)) (nat_eq n (m.procs + 2 + m.width)) _ later.1)
  ])
] where
  no_store : (a b c : Bool) (i : ℕ) → (if a then Some (Store (proc_id p) i) else (if b then Some (Flip (proc_id p)) else (if c then Some (Done (proc_id p)) else None))) ≡ Some (Look (proc_id p) q) → ⊥
  no_store true b c i e = cc
  no_store false true c i e = cc
  no_store false false true i e = cc
  no_store false false false i e = cc

module _ (m : Flight) (at : Places) (words : Word → ℕ) where
  acting : (p : ℕ) (e : Event) → next_of m at words p ≡ Some e → (p < m.procs) × (next_from m p (words ReleaseWord) (at.proc p) ≡ Some e)
  acting p e i = let g = gate (nat_lt p m.procs) (next_from m p (words ReleaseWord) (at.proc p)) e i in (is_less p m.procs g.0, g.1)

  -- The processor at which a processor looks next exists.
  pub looks_low : (p q : ProcId) → IsNext m at words (Look p q) → q.0 < m.procs
  looks_low p q i =
      let b : Mid m p.0 (at.proc p.0) (Look p q) = mid m p.0 (words ReleaseWord) (at.proc p.0) (Look p q) (acting p.0 (Look p q) i).1 (λ e. cc) in
      let c = plan_look m p.0 b.n q.0 (halts_at m b.n (m.halt p.0 b.f)) b.next in
      let uncut : plan_step m p.0 b.n ≡ Some (Look p q) = ap (λ (t : Bool). if t then Some (Halt (proc_id p.0)) else plan_step m p.0 b.n) (sym c.0) ∙ b.next in
      let e = looked_at m p.0 b.n q uncut in
      omega (arith, e, c.1, b.begun)

  stores_low : (p : ProcId) (x : ℕ) → IsNext m at words (Store p x) → x < m.width
  stores_low p x i =
      let b : Mid m p.0 (at.proc p.0) (Store p x) = mid m p.0 (words ReleaseWord) (at.proc p.0) (Store p x) (acting p.0 (Store p x) i).1 (λ e. cc) in
      (plan_store m p.0 b.n x (halts_at m b.n (m.halt p.0 b.f)) b.next).2

module _ (spec : Parts) (script : ScriptParts) where
  next_known : (at : Places) (words : Word → ℕ) (e : Event) → IsNext (flight_of spec script) at words e → HasEvent spec e
  next_known at words (Start p) i = (acting (flight_of spec script) at words p.0 (Start p) i).0
  next_known at words (Look p q) i = ((acting (flight_of spec script) at words p.0 (Look p q) i).0, looks_low (flight_of spec script) at words p q i)
  next_known at words (Store p x) i = ((acting (flight_of spec script) at words p.0 (Store p x) i).0, stores_low (flight_of spec script) at words p x i)
  next_known at words (Flip p) i = (acting (flight_of spec script) at words p.0 (Flip p) i).0
  next_known at words (Done p) i = (acting (flight_of spec script) at words p.0 (Done p) i).0
  next_known at words (Halt p) i = (acting (flight_of spec script) at words p.0 (Halt p) i).0
  next_known at words (KNote p) i = (next_note (flight_of spec script) at words p.0 i).0
  next_known at words (KStore x) i = (next_kstore (flight_of spec script) at words x i).2
  next_known at words Release i = tt

  schedule_known : (s : Machine) (es : List Event) (t : Machine) → IsSchedule (flight_of spec script) s es t → HasEvents spec es
  schedule_known s [] t i = none spec script
  schedule_known s (e ∷ es) t i = with_one spec script e es (next_known s.at s.words e i.0) (schedule_known (happened (flight_of spec script) s e) es t i.1)

  pub history_known : (events : List Event) (at : Places) (words : Word → ℕ) → IsReplay (flight_of spec script) events at words → HasEvents spec events
  history_known events at words r = schedule_known (opening (flight_of spec script)) events r.state r.schedule
