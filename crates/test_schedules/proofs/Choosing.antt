-- If no place of the order has an actor with a next event, the flight is over.
use Rattle.std.proofs.Common.{◌≡◌, ◌∙◌, ◌⊎◌, ℕ, suc, ◌+◌, ◌-◌, ◌<◌, ◌≤◌, Bool, true, false, inl, inr, refl, ap, subst, sym, arith}
use Rattle.std.specs.Prelude.{IfSome, Option, Some, None, nat_eq, nat_lt, if◌then◌else◌}
use Rattle.std.proofs.lemmas.Bool.Decides.{nat_tests}
use native.Mathlib.Decide.{dec_le}
use Rattle.bank_words.specs.declared.events.Event.{Event}
use Rattle.bank_words.specs.declared.events.Event.TheVariants.{Start, Look, Store, Flip, Done, Halt, KNote, KStore, Release}
use Rattle.fail_stop.specs.Ends.{IsOver}
use Rattle.fail_stop.specs.Events.{IsNext, Places, ReleaseWord, Word, next_from, next_kernel, next_of}
use Rattle.fail_stop.specs.Flights.{Flight}
use Rattle.fail_stop.proofs.Plans.{gate, is_less}
use Rattle.event_core.proofs.Actors.{own_next}
use Rattle.test_schedules.specs.Choices.{next_in_order}

module _ (m : Flight) (at : Places) (words : Word → ℕ) where
  if_own : (p : ℕ) (o : Option Event) → next_of m at words p ≡ o → IfSome o (IsNext m at words)
  if_own p None is = tt
  if_own p (Some e) is = own_next m at words p e is

  pub if_own_next : (p : ℕ) (o : Option Event) → o ≡ next_of m at words p → IfSome o (IsNext m at words)
  if_own_next p o is = if_own p o (sym is)

module _ (m : Flight) (at : Places) (words : Word → ℕ) (backwards : Bool) where
  kernel_at : (place : ℕ) → place ≡ m.procs → next_in_order m at words backwards place ≡ next_kernel m at words
  kernel_at place is = let last : nat_eq place m.procs ≡ true = grind (arith, nat_tests, is) in rw last refl

  proc_at : (place : ℕ) → place < m.procs → next_in_order m at words backwards place ≡ next_of m at words (if backwards then m.procs - 1 - place else place)
  proc_at place low = let before : nat_eq place m.procs ≡ false = grind (arith, nat_tests, low) in rw before refl

  module _ (none : (place : ℕ) → place ≤ m.procs → next_in_order m at words backwards place ≡ None) where
    no_kernel : (e : Event) → next_kernel m at words ≡ Some e → ⊥
    no_kernel e is = let no : next_kernel m at words ≡ None = sym (kernel_at m.procs refl) ∙ none m.procs (omega arith) in cc

    no_place : (p : ℕ) (b : Bool) → b ≡ backwards → p < m.procs → next_of m at words p ≡ None
    no_place p true is low =
        let place : m.procs - 1 - p < m.procs = omega (arith, low) in
        let whose : m.procs - 1 - (m.procs - 1 - p) ≡ p = omega (arith, low) in
        sym (ap (next_of m at words) (ap (λ b. if b then m.procs - 1 - (m.procs - 1 - p) else m.procs - 1 - p) (sym is) ∙ whose))
        ∙ sym (proc_at (m.procs - 1 - p) place) ∙ none (m.procs - 1 - p) (omega (arith, place))
    no_place p false is low =
        sym (ap (next_of m at words) (ap (λ b. if b then m.procs - 1 - p else p) (sym is))) ∙ sym (proc_at p low) ∙ none p (omega (arith, low))

    no_proc : (p : ℕ) (e : Event) → next_of m at words p ≡ Some e → ⊥
    no_proc p e is =
        let low = is_less p m.procs (gate (nat_lt p m.procs) (next_from m p (words ReleaseWord) (at.proc p)) e is).0 in
        let no = no_place p backwards refl low in cc

    no_next : (e : Event) → IsNext m at words e → ⊥
    no_next (Start p) is = no_proc p.0 (Start p) is
    no_next (Look p q) is = no_proc p.0 (Look p q) is
    no_next (Store p i) is = no_proc p.0 (Store p i) is
    no_next (Flip p) is = no_proc p.0 (Flip p) is
    no_next (Done p) is = no_proc p.0 (Done p) is
    no_next (Halt p) is = no_proc p.0 (Halt p) is
    no_next (KNote p) is = no_kernel (KNote p) is
    no_next (KStore i) is = no_kernel (KStore i) is
    no_next Release is = no_kernel Release is

    pub over_without : IsOver m at ⊎ ((event : Event) × IsNext m at words event) → IsOver m at
    over_without (inl over) = over
    over_without (inr next) = absurd (no_next next.0 next.1)

  -- If no actor in two ranges of places has a next event, and the ranges together are the whole order, then no actor
  -- of the order has a next event.
  pub none_at_all : (begin end : ℕ) → suc m.procs ≡ end
      → ((place : ℕ) → begin ≤ place → place < end → next_in_order m at words backwards place ≡ None) → ((place : ℕ) → 0 ≤ place → place < begin → next_in_order m at words backwards place ≡ None)
      → (place : ℕ) → place ≤ m.procs → next_in_order m at words backwards place ≡ None
  none_at_all begin end is late early place low = by_side (dec_le begin place) where
    by_side : Dec (begin ≤ place) → next_in_order m at words backwards place ≡ None
    by_side (yes d) = late place d (omega (arith, low, is))
    by_side (no d) = early place (omega arith) (omega (arith, d))

  -- Suppose that no actor at a place from `begin` up to but not including `at'` has a next event, and that the actor
  -- at `at'` has none. Then no actor at a place from `begin` up to and including `at'` has a next event.
  pub none_more : (begin at' : ℕ) → ((place : ℕ) → begin ≤ place → place < at' → next_in_order m at words backwards place ≡ None) → next_in_order m at words backwards at' ≡ None
      → (place : ℕ) → begin ≤ place → place < at' + 1 → next_in_order m at words backwards place ≡ None
  none_more begin at' before none place low high = by_side (dec_le at' place) where
    by_side : Dec (at' ≤ place) → next_in_order m at words backwards place ≡ None
    by_side (yes d) = let same : at' ≡ place = omega (arith, d, high) in subst (λ place. next_in_order m at words backwards place ≡ None) same none
    by_side (no d) = before place low (omega (arith, d))

  -- If no actor in two ranges of places has a next event, and the ranges together are the whole order, then the
  -- flight is over.
  pub over_by : (begin end : ℕ) → suc m.procs ≡ end → IsOver m at ⊎ ((event : Event) × IsNext m at words event)
      → ((place : ℕ) → begin ≤ place → place < end → next_in_order m at words backwards place ≡ None) → ((place : ℕ) → 0 ≤ place → place < begin → next_in_order m at words backwards place ≡ None)
      → IsOver m at
  over_by begin end is on late early = over_without (none_at_all begin end is late early) on
