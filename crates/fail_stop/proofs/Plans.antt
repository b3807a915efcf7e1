-- Lemmas on the place of an actor whose next event is given.
use Rattle.std.proofs.Common.{◌≡◌, ◌≢◌, ◌⊎◌, ℕ, zero, suc, ◌+◌, ◌-◌, ◌<◌, ◌≤◌, Bool, true, false, ◌&&◌, ap, refl, inl, inr, arith}
use Rattle.std.specs.Prelude.{Option, Some, None, nat_lt, nat_eq, if◌then◌else◌}
use Rattle.std.proofs.lemmas.Bool.Decides.{nat_tests}
use Rattle.fail_stop.specs.Flights.{Flight}
use Rattle.bank_words.specs.declared.events.Event.{Event}
use Rattle.bank_words.specs.declared.events.Event.TheVariants.{Start, Look, Store, Flip, Done, Halt, KNote, KStore, Release}
use Rattle.scram_types.specs.declared.ids.ProcId.{ProcId}
use Rattle.scram_types.specs.Lookups.{proc_id}
use Rattle.fail_stop.specs.Events.{Place, At, Halted, Places, Word, EndWord, plan, plan_step, halts_at, next_halted, next_from, next_kernel, may_note}

pub gate : {A : Type 0} (b : Bool) (x : Option A) (e : A) → (if b then x else None) ≡ Some e → (b ≡ true) × (x ≡ Some e)
gate true x e h = (refl, h)
gate false x e h = cc

pub fork : {A : Type 0} (b : Bool) (x y : Option A) (e : A) → (if b then x else y) ≡ Some e → ((b ≡ true) × (x ≡ Some e)) ⊎ ((b ≡ false) × (y ≡ Some e))
fork true x y e h = inl (refl, h)
fork false x y e h = inr (refl, h)

pub is_less : (a b : ℕ) → nat_lt a b ≡ true → a < b
is_less a b h = grind (arith, nat_tests)

pub both_less : (a b c d : ℕ) → (nat_lt a b && nat_lt c d) ≡ true → (a < b) × (c < d)
both_less a b c d h = grind (arith, nat_tests)

-- Event `e` is the next event of processor `p`, and it comes after the start of a frame.
pub record Mid (m : Flight) (p : ℕ) (place : Place) (e : Event) : Type 0 where
  pub f : ℕ
  pub n : ℕ
  pub here : place ≡ At f n
  pub begun : 0 < n
  pub next : plan m p f n ≡ Some e

mid_restart : (m : Flight) (p h release : ℕ) (o : Option ℕ) (e : Event) → next_halted p h release o ≡ Some e → e ≢ Start (proc_id p) → Mid m p (Halted h) e
mid_restart m p h release None e i n = cc
mid_restart m p h release (Some r) e i n = let g = (gate (nat_lt h r && nat_lt r release) (Some (Start (proc_id p))) e i).1 in absurd (n (cc))

pub mid : (m : Flight) (p release : ℕ) (place : Place) (e : Event) → next_from m p release place ≡ Some e → e ≢ Start (proc_id p) → Mid m p place e
mid m p release (At f zero) e i n = let g = (gate (nat_lt f m.frames && nat_lt f release) (Some (Start (proc_id p))) e i).1 in absurd (n (cc))
mid m p release (At f (suc k)) e i n = record { f = f; n = suc k; here = refl; begun = omega arith; next = i }
mid m p release (Halted h) e i n = mid_restart m p h release (m.restart p) e i n

-- The start is the next event of processor `p`, at the beginning of a frame or after a halt.
pub record Begin (m : Flight) (p release : ℕ) (place : Place) : Type 0 where
  pub f : ℕ
  pub low : f < release
  pub where_ : ((place ≡ At f 0) × (f < m.frames)) ⊎ ((h : ℕ) × (place ≡ Halted h) × (m.restart p ≡ Some f) × (h < f))

never_start : (m : Flight) (p n : ℕ) → 0 < n → plan_step m p n ≢ Some (Start (proc_id p))
never_start m p n l e = grind (arith, nat_tests)

begin_plan : (m : Flight) (p f k : ℕ) (b : Bool) → (if b then Some (Halt (proc_id p)) else plan_step m p (suc k)) ≡ Some (Start (proc_id p)) → ⊥
begin_plan m p f k true e = cc
begin_plan m p f k false e = never_start m p (suc k) (omega arith) e

begin_restart : (m : Flight) (p h release : ℕ) (o : Option ℕ) → m.restart p ≡ o → next_halted p h release o ≡ Some (Start (proc_id p)) → Begin m p release (Halted h)
begin_restart m p h release None r i = cc
begin_restart m p h release (Some f) r i = let g = (gate (nat_lt h f && nat_lt f release) (Some (Start (proc_id p))) (Start (proc_id p)) i).0 in let l = both_less h f f release g in
    record { f = f; low = l.1; where_ = inr (h, refl, r, l.0) }

pub begin : (m : Flight) (p release : ℕ) (place : Place) → next_from m p release place ≡ Some (Start (proc_id p)) → Begin m p release place
begin m p release (At f zero) i = let g = (gate (nat_lt f m.frames && nat_lt f release) (Some (Start (proc_id p))) (Start (proc_id p)) i).0 in let l = both_less f m.frames f release g in
    record { f = f; low = l.1; where_ = inl (refl, l.0) }
begin m p release (At f (suc k)) i = absurd (begin_plan m p f k (halts_at m (suc k) (m.halt p f)) i)
begin m p release (Halted h) i = begin_restart m p h release (m.restart p) refl i

-- Lemmas on the number of steps before each event of a frame.
step_look : (m : Flight) (p n q : ℕ) → plan_step m p n ≡ Some (Look (proc_id p) (proc_id q)) → n ≤ m.procs
step_look m p n q e = grind (arith, nat_tests)

step_store : (m : Flight) (p n i : ℕ) → plan_step m p n ≡ Some (Store (proc_id p) i) → (n ≡ m.procs + 1 + i) × (i < m.width)
step_store m p n i e = grind (arith, nat_tests)

step_flip : (m : Flight) (p n : ℕ) → plan_step m p n ≡ Some (Flip (proc_id p)) → n ≡ m.procs + 1 + m.width
step_flip m p n e = grind (arith, nat_tests)

step_done : (m : Flight) (p n : ℕ) → plan_step m p n ≡ Some (Done (proc_id p)) → n ≡ m.procs + 2 + m.width
step_done m p n e = grind (arith, nat_tests)

step_halt : (m : Flight) (p n : ℕ) → plan_step m p n ≢ Some (Halt (proc_id p))
step_halt m p n e = grind (arith, nat_tests)

pub plan_look : (m : Flight) (p n q : ℕ) (b : Bool) → (if b then Some (Halt (proc_id p)) else plan_step m p n) ≡ Some (Look (proc_id p) (proc_id q)) → (b ≡ false) × (n ≤ m.procs)
plan_look m p n q true e = cc
plan_look m p n q false e = (refl, step_look m p n q e)

pub plan_store : (m : Flight) (p n i : ℕ) (b : Bool) → (if b then Some (Halt (proc_id p)) else plan_step m p n) ≡ Some (Store (proc_id p) i) → (b ≡ false) × (n ≡ m.procs + 1 + i) × (i < m.width)
plan_store m p n i true e = cc
plan_store m p n i false e = let s = step_store m p n i e in (refl, s.0, s.1)

pub plan_flip : (m : Flight) (p n : ℕ) (b : Bool) → (if b then Some (Halt (proc_id p)) else plan_step m p n) ≡ Some (Flip (proc_id p)) → (b ≡ false) × (n ≡ m.procs + 1 + m.width)
plan_flip m p n true e = cc
plan_flip m p n false e = (refl, step_flip m p n e)

pub plan_done : (m : Flight) (p n : ℕ) (b : Bool) → (if b then Some (Halt (proc_id p)) else plan_step m p n) ≡ Some (Done (proc_id p)) → (b ≡ false) × (n ≡ m.procs + 2 + m.width)
plan_done m p n true e = cc
plan_done m p n false e = (refl, step_done m p n e)

pub plan_halt : (m : Flight) (p n : ℕ) (b : Bool) → (if b then Some (Halt (proc_id p)) else plan_step m p n) ≡ Some (Halt (proc_id p)) → b ≡ true
plan_halt m p n true e = refl
plan_halt m p n false e = absurd (step_halt m p n e)

pub record HaltsHere (m : Flight) (n : ℕ) (o : Option ℕ) : Type 0 where
  pub step : ℕ
  pub halts : o ≡ Some step
  pub count : n ≡ m.procs + 1 + step

pub halts_here : (m : Flight) (n : ℕ) (o : Option ℕ) → halts_at m n o ≡ true → HaltsHere m n o
halts_here m n None e = cc
halts_here m n (Some s) e = record { step = s; halts = refl; count = grind (arith, nat_tests) }

-- Lemmas on the kernel's next event.
abbrev tail : Bool → Bool → Bool → ℕ → Option Event
tail a b c i = if a then (if b then Some (KStore i) else (if c then Some Release else None)) else None

note_case : (low may : Bool) (j p i : ℕ) (a b c : Bool) → (if low then (if may then Some (KNote (proc_id j)) else None) else tail a b c i) ≡ Some (KNote (proc_id p)) → (low ≡ true) × (may ≡ true) × (j ≡ p)
note_case true true j p i a b c e = let same : proc_id j ≡ proc_id p = cc in (refl, refl, ap (λ (q : ProcId). q.0) same)
note_case true false j p i a b c e = cc
note_case false may j p i true true c e = cc
note_case false may j p i true false true e = cc
note_case false may j p i true false false e = cc
note_case false may j p i false b c e = cc

store_case : (low may : Bool) (j x i : ℕ) (a b c : Bool) → (if low then (if may then Some (KNote (proc_id j)) else None) else tail a b c i) ≡ Some (KStore x) → (low ≡ false) × (a ≡ true) × (b ≡ true) × (i ≡ x)
store_case true true j x i a b c e = cc
store_case true false j x i a b c e = cc
store_case false may j x i true true c e = (refl, refl, refl, cc)
store_case false may j x i true false true e = cc
store_case false may j x i true false false e = cc
store_case false may j x i false b c e = cc

release_case : (low may : Bool) (j i : ℕ) (a b c : Bool) → (if low then (if may then Some (KNote (proc_id j)) else None) else tail a b c i) ≡ Some Release → (low ≡ false) × (a ≡ true) × (c ≡ true)
release_case true true j i a b c e = cc
release_case true false j i a b c e = cc
release_case false may j i true true c e = cc
release_case false may j i true false true e = (refl, refl, refl)
release_case false may j i true false false e = cc
release_case false may j i false b c e = cc

pub not_less : (a b : ℕ) → nat_lt a b ≡ false → b ≤ a
not_less a b h = grind (arith, nat_tests)

is_same : (a b : ℕ) → nat_eq a b ≡ true → a ≡ b
is_same a b h = grind (arith, nat_tests)

module _ (m : Flight) (at : Places) (words : Word → ℕ) where
  pub next_note : (p : ℕ) → next_kernel m at words ≡ Some (KNote (proc_id p)) → (p < m.procs) × (at.step ≡ p) × (may_note m p at.frame (words (EndWord p)) ≡ true)
  next_note p e =
      let a = (gate (nat_lt at.frame m.frames) _ (KNote (proc_id p)) e).1 in
      let c = note_case (nat_lt at.step m.procs) (may_note m at.step at.frame (words (EndWord at.step))) at.step p (at.step - m.procs) (nat_lt (suc at.frame) m.frames) (nat_lt at.step (m.procs + 20)) (nat_eq at.step (m.procs + 20)) a in
      let l = is_less at.step m.procs c.0 in
      let s = c.2 in
      (rw s at l, s, rw s at c.1)

  pub next_kstore : (i : ℕ) → next_kernel m at words ≡ Some (KStore i) → (m.procs ≤ at.step) × (at.step ≡ m.procs + i) × (i < 20) × (suc at.frame < m.frames)
  next_kstore i e =
      let a = (gate (nat_lt at.frame m.frames) _ (KStore i) e).1 in
      let c = store_case (nat_lt at.step m.procs) (may_note m at.step at.frame (words (EndWord at.step))) at.step i (at.step - m.procs) (nat_lt (suc at.frame) m.frames) (nat_lt at.step (m.procs + 20)) (nat_eq at.step (m.procs + 20)) a in
      let low = not_less at.step m.procs c.0 in
      let more = is_less (suc at.frame) m.frames c.1 in
      let high = is_less at.step (m.procs + 20) c.2 in
      let s = c.3 in
      (low, omega arith, omega arith, more)

  pub next_release : next_kernel m at words ≡ Some Release → (at.step ≡ m.procs + 20) × (suc at.frame < m.frames)
  next_release e =
      let a = (gate (nat_lt at.frame m.frames) _ Release e).1 in
      let c = release_case (nat_lt at.step m.procs) (may_note m at.step at.frame (words (EndWord at.step))) at.step (at.step - m.procs) (nat_lt (suc at.frame) m.frames) (nat_lt at.step (m.procs + 20)) (nat_eq at.step (m.procs + 20)) a in
      (is_same at.step (m.procs + 20) c.2, is_less (suc at.frame) m.frames c.1)
