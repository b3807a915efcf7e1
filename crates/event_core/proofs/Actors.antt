-- The next event of an actor is an event of that actor.
use Rattle.std.proofs.Common.{◌≡◌, ◌∙◌, ℕ, zero, suc, Bool, true, false, refl, ap, subst, arith}
use Rattle.std.specs.Prelude.{Option, Some, None, nat_eq, nat_lt, if◌then◌else◌}
use Rattle.std.proofs.lemmas.Bool.Decides.{nat_tests}
use Rattle.scram_types.specs.declared.ids.ProcId.{ProcId}
use Rattle.scram_types.specs.Lookups.{proc_id}
use Rattle.bank_words.specs.declared.events.Event.{Event}
use Rattle.bank_words.specs.declared.events.Event.TheVariants.{Start, Look, Store, Flip, Done, Halt, KNote, KStore, Release}
use Rattle.fail_stop.specs.Events.{At, Halted, IsNext, Place, Places, ReleaseWord, Word, halts_at, is_actor, next_from, next_halted, next_kernel, next_of, next_of_actor}
use Rattle.fail_stop.specs.Flights.{Flight}
use Rattle.fail_stop.proofs.Moves.{nat_eq_self}
use Rattle.fail_stop.proofs.Plans.{gate}

is_same : (p q : ℕ) → nat_eq p q ≡ true → q ≡ p
is_same p q e = grind (arith, nat_tests)

-- If `x` is an event of processor `p` and equals `e`, then `e` is an event of `p`.
told : (p : ℕ) (x e : Event) → is_actor x p ≡ true → Some x ≡ Some e → is_actor e p ≡ true
told p x e own is = let same : x ≡ e = cc in subst (λ (e : Event). is_actor e p ≡ true) same own

plan_told : (p i : ℕ) (q : ProcId) (e : Event) (h a b c d f : Bool)
    → (if h then Some (Halt (proc_id p)) else (if a then Some (Start (proc_id p)) else (if b then Some (Look (proc_id p) q) else (if c then Some (Store (proc_id p) i)
    else (if d then Some (Flip (proc_id p)) else (if f then Some (Done (proc_id p)) else None)))))) ≡ Some e → is_actor e p ≡ true
plan_told p i q e true a b c d f is = told p (Halt (proc_id p)) e (nat_eq_self p) is
plan_told p i q e false true b c d f is = told p (Start (proc_id p)) e (nat_eq_self p) is
plan_told p i q e false false true c d f is = told p (Look (proc_id p) q) e (nat_eq_self p) is
plan_told p i q e false false false true d f is = told p (Store (proc_id p) i) e (nat_eq_self p) is
plan_told p i q e false false false false true f is = told p (Flip (proc_id p)) e (nat_eq_self p) is
plan_told p i q e false false false false false true is = told p (Done (proc_id p)) e (nat_eq_self p) is
plan_told p i q e false false false false false false is = cc

halted_told : (p h release : ℕ) (restart : Option ℕ) (e : Event) → next_halted p h release restart ≡ Some e → is_actor e p ≡ true
halted_told p h release None e is = cc
halted_told p h release (Some r) e is = told p (Start (proc_id p)) e (nat_eq_self p) (gate _ (Some (Start (proc_id p))) e is).1

-- Whether the kernel is the actor of an event.
abbrev of_kernel : Event → Bool
of_kernel (Start p) = false
of_kernel (Look p q) = false
of_kernel (Store p i) = false
of_kernel (Flip p) = false
of_kernel (Done p) = false
of_kernel (Halt p) = false
of_kernel (KNote p) = true
of_kernel (KStore i) = true
of_kernel Release = true

module _ (m : Flight) (at : Places) (words : Word → ℕ) where
  from_told : (p release : ℕ) (place : Place) (e : Event) → next_from m p release place ≡ Some e → is_actor e p ≡ true
  from_told p release (At f zero) e is = told p (Start (proc_id p)) e (nat_eq_self p) (gate _ (Some (Start (proc_id p))) e is).1
  from_told p release (At f (suc n)) e is = plan_told p _ _ e (halts_at m (suc n) (m.halt p f)) _ _ _ _ _ is
  from_told p release (Halted h) e is = halted_told p h release (m.restart p) e is

  by_actor : (p : ℕ) (e : Event) → is_actor e p ≡ true → next_of_actor m at words e ≡ next_of m at words p
  by_actor p (Start q) is = ap (next_of m at words) (is_same p q.0 is)
  by_actor p (Look q i) is = ap (next_of m at words) (is_same p q.0 is)
  by_actor p (Store q i) is = ap (next_of m at words) (is_same p q.0 is)
  by_actor p (Flip q) is = ap (next_of m at words) (is_same p q.0 is)
  by_actor p (Done q) is = ap (next_of m at words) (is_same p q.0 is)
  by_actor p (Halt q) is = ap (next_of m at words) (is_same p q.0 is)
  by_actor p (KNote q) is = cc
  by_actor p (KStore i) is = cc
  by_actor p Release is = cc

  by_kernel : (e : Event) → of_kernel e ≡ true → next_of_actor m at words e ≡ next_kernel m at words
  by_kernel (Start q) is = cc
  by_kernel (Look q i) is = cc
  by_kernel (Store q i) is = cc
  by_kernel (Flip q) is = cc
  by_kernel (Done q) is = cc
  by_kernel (Halt q) is = cc
  by_kernel (KNote q) is = refl
  by_kernel (KStore i) is = refl
  by_kernel Release is = refl

  -- The next event of a processor or of the kernel is the next event of its actor.
  pub own_next : (p : ℕ) (e : Event) → next_of m at words p ≡ Some e → IsNext m at words e
  own_next p e is = by_actor p e (from_told p (words ReleaseWord) (at.proc p) e (gate (nat_lt p m.procs) (next_from m p (words ReleaseWord) (at.proc p)) e is).1) ∙ is
