-- If the flight is not over, some processor or the kernel has a next event.
use Rattle.std.proofs.Common.{◌≡◌, ◌∙◌, ◌⊎◌, ℕ, zero, suc, ◌<◌, inl, inr, ap, subst, sym, refl, arith}
use Rattle.std.specs.Prelude.{Option, Some, None, nat_lt}
use native.Mathlib.Decide.{ℕ_discrete}
use Rattle.bank_words.specs.declared.events.Event.{Event}
use Rattle.bank_words.specs.declared.events.Event.TheVariants.{Start, Look, Store, Flip, Done, Halt, KNote, KStore, Release}
use Rattle.fail_stop.specs.Ends.{IsOver}
use Rattle.fail_stop.specs.Events.{IsNext, Places, ReleaseWord, Word, next_from, next_kernel, next_of}
use Rattle.fail_stop.specs.Flights.{Flight}
use Rattle.fail_stop.proofs.Plans.{gate, is_less}
use Rattle.schedule_replay.specs.Replaying.{first_of_two, next_below}

first_none : (o q : Option Event) → first_of_two o q ≡ None → (o ≡ None) × (q ≡ None)
first_none (Some e) q is = cc
first_none None q is = (refl, is)

module _ (m : Flight) (at : Places) (words : Word → ℕ) where
  -- If no processor below `n` has a next event and processor `n` has none, then no processor below `n + 1` has one.
  at_or_below : (n p : ℕ) → Dec (p ≡ n) → p < suc n → next_of m at words n ≡ None → (p < n → next_of m at words p ≡ None) → next_of m at words p ≡ None
  at_or_below n p (yes same) low last before = ap (next_of m at words) same ∙ last
  at_or_below n p (no other) low last before = before (omega (arith, low, other))

  none_below : (n p : ℕ) → p < n → next_below m at words n ≡ None → next_of m at words p ≡ None
  none_below zero p low is = absurd (omega (arith, low))
  none_below (suc n) p low is =
      let both = first_none (next_below m at words n) (next_of m at words n) is in
      at_or_below n p (ℕ_discrete p n) low both.1 (λ less. none_below n p less both.0)

  -- If processor `p` is the first one below `n + 1` that has a next event, then `next_below` finds that event below
  -- `n + 1`.
  found_at : (n p : ℕ) (e : Event) → Dec (p ≡ n) → p < suc n → next_below m at words p ≡ None → next_of m at words p ≡ Some e → (p < n → next_below m at words n ≡ Some e) → next_below m at words (suc n) ≡ Some e
  found_at n p e (yes same) low none is before =
      ap (λ o. first_of_two o (next_of m at words n)) (subst (λ k. next_below m at words k ≡ None) same none) ∙ ap (next_of m at words) (sym same) ∙ is
  found_at n p e (no other) low none is before = ap (λ o. first_of_two o (next_of m at words n)) (before (omega (arith, low, other)))

  pub found_below : (n p : ℕ) (e : Event) → p < n → next_below m at words p ≡ None → next_of m at words p ≡ Some e → next_below m at words n ≡ Some e
  found_below zero p e low none is = absurd (omega (arith, low))
  found_below (suc n) p e low none is = found_at n p e (ℕ_discrete p n) low none is (λ less. found_below n p e less none is)

  module _ (none : next_below m at words m.procs ≡ None) (no_kernel : next_kernel m at words ≡ None) where
    no_proc : (p : ℕ) (e : Event) → next_of m at words p ≡ Some e → ⊥
    no_proc p e is =
        let low = is_less p m.procs (gate (nat_lt p m.procs) (next_from m p (words ReleaseWord) (at.proc p)) e is).0 in
        let no = none_below m.procs p low none in cc

    of_kernel : (e : Event) → next_kernel m at words ≡ Some e → ⊥
    of_kernel e is = let no = no_kernel in cc

    no_next : (e : Event) → IsNext m at words e → ⊥
    no_next (Start p) is = no_proc p.0 (Start p) is
    no_next (Look p q) is = no_proc p.0 (Look p q) is
    no_next (Store p i) is = no_proc p.0 (Store p i) is
    no_next (Flip p) is = no_proc p.0 (Flip p) is
    no_next (Done p) is = no_proc p.0 (Done p) is
    no_next (Halt p) is = no_proc p.0 (Halt p) is
    no_next (KNote p) is = of_kernel (KNote p) is
    no_next (KStore i) is = of_kernel (KStore i) is
    no_next Release is = of_kernel Release is

    pub over_without : IsOver m at ⊎ ((event : Event) × IsNext m at words event) → IsOver m at
    over_without (inl over) = over
    over_without (inr next) = absurd (no_next next.0 next.1)
