-- Lemmas on `IsFlownOn`: fewer events remain, or the state has not changed.
use Rattle.std.proofs.Common.{◌≡◌, ◌∙◌, ◌⊎◌, ℕ, ◌+◌, ◌<◌, ◌≤◌, ap, sym, subst, arith, inl, inr, length}
use Rattle.std.specs.Prelude.{Option, Some, None}
use native.Mathlib.Decide.{ℕ_discrete}
use Rattle.scram_types.specs.declared.ids.ProcId.{ProcId}
use Rattle.scram_types.specs.Lookups.{proc_id}
use Rattle.fail_stop.specs.Flights.{Flight}
use Rattle.kernel_pair.specs.declared.events.UnitHalt.{UnitHalt}
use Rattle.kernel_pair.specs.declared.events.PairEvent.{PairEvent}
use Rattle.kernel_pair.specs.declared.events.PairEvent.TheVariants.{Fly, Note, Store, Ready, Meet, Release, Stop}
use Rattle.kernel_pair.specs.Laws.{HasNext}
use Rattle.kernel_pair.specs.Machines.{PairParts, pair_flight, pair_in}
use Rattle.kernel_pair.specs.Pairs.{IsPairNext, IsPairOver, Pair, next_unit, other_unit}
use Rattle.kernel_pair.specs.Rounds.{IsFlownOn, left_in}
use Rattle.kernel_pair.proofs.Moving.{two}
use Rattle.kernel_pair.proofs.Plans.{IsOf, goes}

pub still : (old new : PairParts) (Stuck : Type 0) → new ≡ old → Stuck → IsFlownOn old new Stuck
still old new Stuck same stuck = record {
  spec = ap (λ (k : PairParts). k.spec) same;
  script = ap (λ (k : PairParts). k.script) same;
  halt = ap (λ (k : PairParts). k.halt) same;
  fewer = let left = ap left_in same in omega (arith, left);
  stuck = λ left. (same, stuck);
}

pub on_and_on : (old mid new : PairParts) (A : Type 0) (B C : PairParts → Type 0) → IsFlownOn old mid A → IsFlownOn mid new (B mid) → (A → B old → C old) → IsFlownOn old new (C old)
on_and_on old mid new A B C one two both =
    let first = one.fewer in
    let second = two.fewer in record {
      spec = two.spec ∙ one.spec;
      script = two.script ∙ one.script;
      halt = two.halt ∙ one.halt;
      fewer = omega (arith, first, second);
      stuck = λ same.
          let a = one.stuck (omega (arith, first, second, same)) in
          let b = two.stuck (omega (arith, first, second, same)) in
          (b.0 ∙ a.0, both a.1 (subst B a.0 b.1));
    }

-- The next event of a unit is a next event of its actor.
pub next_of_unit : (m : Flight) (halt : Option UnitHalt) (s : Pair) (u : ℕ) (e : PairEvent) → u < 2 → next_unit m halt s u ≡ Some e → IsPairNext m halt s e
next_of_unit m halt s u e l i = by_event e i (goes m halt u (s.unit u) (s.unit (other_unit u)).ready (λ p. (s.proc p).end) e i).of
  where
    own : (v : ℕ) (x : PairEvent) → next_unit m halt s u ≡ Some x → v ≡ u → (v < 2) × (next_unit m halt s v ≡ Some x)
    own v x i same = (omega (arith, l, same), subst (λ (w : ℕ). next_unit m halt s w ≡ Some x) (sym same) i)

    by_event : (x : PairEvent) → next_unit m halt s u ≡ Some x → IsOf u x → IsPairNext m halt s x
    by_event (Fly p v) i of = absurd of
    by_event (Note v p) i of = own v (Note v p) i of
    by_event (Store v d) i of = own v (Store v d) i of
    by_event (Ready v) i of = own v (Ready v) i of
    by_event (Meet v) i of = own v (Meet v) i of
    by_event (Release v) i of = own v (Release v) i of
    by_event (Stop v) i of = own v (Stop v) i of

-- If `e` is a next event, and `IsFlownOn` holds with the claim that `e` is not a next event, then fewer events
-- remain.
pub attempted : (old new : PairParts) (e : PairEvent) → IsPairNext (pair_flight old) old.halt (pair_in old) e → IsFlownOn old new (IsPairNext (pair_flight old) old.halt (pair_in old) e → ⊥) → left_in new < left_in old
attempted old new e next on = by_left (ℕ_discrete (left_in new) (left_in old))
  where
    by_left : Dec (left_in new ≡ left_in old) → left_in new < left_in old
    by_left (yes same) = absurd ((on.stuck same).1 next)
    by_left (no other) = let most = on.fewer in omega arith

-- No actor has a next event.
pub record NoneNext (k : PairParts) : Type 0 where
  pub processors : (p : ProcId) (u : ℕ) → p.0 < 8 → u < 2 → IsPairNext (pair_flight k) k.halt (pair_in k) (Fly p u) → ⊥
  pub first : next_unit (pair_flight k) k.halt (pair_in k) 0 ≡ None
  pub second : next_unit (pair_flight k) k.halt (pair_in k) 1 ≡ None

none_next : (k : PairParts) → NoneNext k → length k.spec.procs ≤ 8 → HasNext (pair_flight k) k.halt (pair_in k) → ⊥
none_next k none few (e, next) = by_event e next
  where
    no_unit : (u : ℕ) (x : PairEvent) → u < 2 → next_unit (pair_flight k) k.halt (pair_in k) u ≡ Some x → ⊥
    no_unit u x l i = let no : next_unit (pair_flight k) k.halt (pair_in k) u ≡ None = two (λ v. next_unit (pair_flight k) k.halt (pair_in k) v ≡ None) none.first none.second u l in cc

    by_event : (x : PairEvent) → IsPairNext (pair_flight k) k.halt (pair_in k) x → ⊥
    by_event (Fly p u) i = let low = i.0 in none.processors p u (omega (arith, low, few)) i.1 i
    by_event (Note u p) i = no_unit u (Note u p) i.0 i.1
    by_event (Store u d) i = no_unit u (Store u d) i.0 i.1
    by_event (Ready u) i = no_unit u (Ready u) i.0 i.1
    by_event (Meet u) i = no_unit u (Meet u) i.0 i.1
    by_event (Release u) i = no_unit u (Release u) i.0 i.1
    by_event (Stop u) i = no_unit u (Stop u) i.0 i.1

-- If the pair is not over, then fewer events remain after a round.
pub round_fewer : (old new : PairParts) → length old.spec.procs ≤ 8 → IsPairOver (pair_flight old) (pair_in old) ⊎ HasNext (pair_flight old) old.halt (pair_in old) → (IsPairOver (pair_flight old) (pair_in old) → ⊥)
    → IsFlownOn old new (NoneNext old) → left_in new < left_in old
round_fewer old new few (inl over) going on = absurd (going over)
round_fewer old new few (inr next) going on = by_left (ℕ_discrete (left_in new) (left_in old))
  where
    by_left : Dec (left_in new ≡ left_in old) → left_in new < left_in old
    by_left (yes same) = absurd (none_next old (on.stuck same).1 few next)
    by_left (no other) = let most = on.fewer in omega arith

-- If no processor below `n` has a next event, and processor `n` has none either, then no processor below `n + 1` has
-- one.
pub below_more : (k : PairParts) (n : ℕ) → ((q : ProcId) (u : ℕ) → q.0 < n → u < 2 → IsPairNext (pair_flight k) k.halt (pair_in k) (Fly q u) → ⊥)
    → ((u : ℕ) → u < 2 → IsPairNext (pair_flight k) k.halt (pair_in k) (Fly (proc_id n) u) → ⊥)
    → (q : ProcId) (u : ℕ) → q.0 < n + 1 → u < 2 → IsPairNext (pair_flight k) k.halt (pair_in k) (Fly q u) → ⊥
below_more k n before here q u low l next = by_place (ℕ_discrete q.0 n)
  where
    by_place : Dec (q.0 ≡ n) → ⊥
    by_place (yes e) = here u l (subst (λ (i : ℕ). IsPairNext (pair_flight k) k.halt (pair_in k) (Fly (proc_id i) u)) e next)
    by_place (no d) = before q u (omega arith) l next

-- No processor has a next event.
abbrev Processors : PairParts → Type 0
Processors k = (q : ProcId) (u : ℕ) → q.0 < 8 → u < 2 → IsPairNext (pair_flight k) k.halt (pair_in k) (Fly q u) → ⊥

-- If `IsFlownOn` holds for each of the three parts of a round, then it holds for the whole round. The parts are the
-- frames of the processors, the events of unit 0 and the events of unit 1. If the round does not change the number of
-- events that remain, then no actor has a next event.
pub round_on : (old mid mid2 new : PairParts) → IsFlownOn old mid ((q : ProcId) (u : ℕ) → q.0 < 8 → u < 2 → IsPairNext (pair_flight old) old.halt (pair_in old) (Fly q u) → ⊥)
    → IsFlownOn mid mid2 (next_unit (pair_flight mid) mid.halt (pair_in mid) 0 ≡ None) → IsFlownOn mid2 new (next_unit (pair_flight mid2) mid2.halt (pair_in mid2) 1 ≡ None) → IsFlownOn old new (NoneNext old)
round_on old mid mid2 new one two_ three =
    on_and_on old mid2 new (Processors old × (next_unit (pair_flight old) old.halt (pair_in old) 0 ≡ None)) (λ k. next_unit (pair_flight k) k.halt (pair_in k) 1 ≡ None) NoneNext
    (on_and_on old mid mid2 (Processors old) (λ k. next_unit (pair_flight k) k.halt (pair_in k) 0 ≡ None) (λ k. Processors k × (next_unit (pair_flight k) k.halt (pair_in k) 0 ≡ None)) one two_ (λ a b. (a, b)))
    three (λ a b. record { processors = a.0; first = a.1; second = b })
