-- An event changes one actor. These lemmas derive the invariant `PairKept` after the event from facts about that
-- actor.
use Rattle.std.proofs.Common.{◌≡◌, ℕ, zero, suc, ◌<◌, ◌≤◌, arith}
use Rattle.std.specs.Prelude.{Option}
use native.Mathlib.Decide.{ℕ_discrete}
use Rattle.fail_stop.specs.Flights.{Flight}
use Rattle.fail_stop.proofs.Moves.{nat_eq_self, nat_eq_other}
use Rattle.kernel_pair.specs.declared.events.UnitHalt.{UnitHalt}
use Rattle.kernel_pair.specs.Pairs.{Processor, KernelUnit, Pair, other_unit, with_at, with_proc, with_unit}
use Rattle.kernel_pair.specs.Kept.{HasMet, IsAhead, IsProcessor, IsReached, IsUnit, PairKept, frames_past}

-- A fact that holds for units 0 and 1 holds for each unit.
pub two : (P : ℕ → Type 0) → P 0 → P 1 → (v : ℕ) → v < 2 → P v
two P a b zero l = a
two P a b (suc zero) l = b
two P a b (suc (suc v)) l = absurd (omega arith)

-- A fact that holds for a unit and for the other unit holds for each unit.
pub both : (u : ℕ) → u < 2 → (P : ℕ → Type 0) → P u → P (other_unit u) → (v : ℕ) → v < 2 → P v
both zero l P a b = two P a b
both (suc zero) l P a b = two P b a
both (suc (suc u)) l P a b = absurd (omega arith)

-- Unit `x` satisfies the facts from which the invariant follows if `x` replaces unit `u`.
pub record UnitMoves (m : Flight) (halt : Option UnitHalt) (s : Pair) (u : ℕ) (x : KernelUnit) : Type 0 where
  pub own : IsUnit m halt u x
  pub ahead : (p : ℕ) → p < m.procs → IsAhead m p (s.proc p).place x
  pub on : (s.unit u).frame ≤ x.frame
  pub meets : HasMet m x (s.unit (other_unit u))
  pub met : HasMet m (s.unit (other_unit u)) x

module _ (m : Flight) (halt : Option UnitHalt) (s : Pair) (k : PairKept m halt s) where
  pub by_unit : (u : ℕ) → u < 2 → (x : KernelUnit) → UnitMoves m halt s u x → PairKept m halt (with_unit s u x)
  by_unit zero l x o = record {
    units = two (λ v. IsUnit m halt v (with_at s.unit 0 x v)) o.own (k.units 1 (omega arith));
    processors = k.processors;
    ahead = λ v p lv lp. two (λ w. IsAhead m p (s.proc p).place (with_at s.unit 0 x w)) (o.ahead p lp) (k.ahead 1 p (omega arith) lp) v lv;
    reached = λ p lp. let r = k.reached p lp in record { unit = r.unit; there = r.there; high = two (λ w. frames_past (s.proc p).place ≤ suc (s.unit w).frame → frames_past (s.proc p).place ≤ suc (with_at s.unit 0 x w).frame) (λ g. omega (arith, o.on)) (λ g. g) r.unit r.there r.high };
    met = two (λ v. HasMet m (with_at s.unit 0 x v) (with_at s.unit 0 x (other_unit v))) o.meets o.met;
  }
  by_unit (suc zero) l x o = record {
    units = two (λ v. IsUnit m halt v (with_at s.unit 1 x v)) (k.units 0 (omega arith)) o.own;
    processors = k.processors;
    ahead = λ v p lv lp. two (λ w. IsAhead m p (s.proc p).place (with_at s.unit 1 x w)) (k.ahead 0 p (omega arith) lp) (o.ahead p lp) v lv;
    reached = λ p lp. let r = k.reached p lp in record { unit = r.unit; there = r.there; high = two (λ w. frames_past (s.proc p).place ≤ suc (s.unit w).frame → frames_past (s.proc p).place ≤ suc (with_at s.unit 1 x w).frame) (λ g. g) (λ g. omega (arith, o.on)) r.unit r.there r.high };
    met = two (λ v. HasMet m (with_at s.unit 1 x v) (with_at s.unit 1 x (other_unit v))) o.met o.meets;
  }
  by_unit (suc (suc u)) l x o = absurd (omega arith)

  -- If processor `p` becomes `y`, and `y` agrees with its place and with the units, then the invariant holds.
  pub by_proc : (p : ℕ) → (y : Processor) → IsProcessor m p y → ((u : ℕ) → u < 2 → IsAhead m p y.place (s.unit u)) → IsReached s.unit y.place → PairKept m halt (with_proc s p y)
  by_proc p y own ahead reached = record {
    units = k.units;
    processors = λ q l. processor_at q l (ℕ_discrete q p);
    ahead = λ u q lu lq. ahead_at u q lu lq (ℕ_discrete q p);
    reached = λ q l. reached_at q l (ℕ_discrete q p);
    met = k.met;
  }
    where
      processor_at : (q : ℕ) → q < m.procs → Dec (q ≡ p) → IsProcessor m q (with_at s.proc p y q)
      processor_at q l (yes e) = rw (e, nat_eq_self p) own
      processor_at q l (no n) = rw (nat_eq_other q p n) (k.processors q l)

      ahead_at : (u q : ℕ) → u < 2 → q < m.procs → Dec (q ≡ p) → IsAhead m q (with_at s.proc p y q).place (s.unit u)
      ahead_at u q lu lq (yes e) = rw (e, nat_eq_self p) (ahead u lu)
      ahead_at u q lu lq (no n) = rw (nat_eq_other q p n) (k.ahead u q lu lq)

      reached_at : (q : ℕ) → q < m.procs → Dec (q ≡ p) → IsReached s.unit (with_at s.proc p y q).place
      reached_at q l (yes e) = rw (e, nat_eq_self p) reached
      reached_at q l (no n) = rw (nat_eq_other q p n) (k.reached q l)
