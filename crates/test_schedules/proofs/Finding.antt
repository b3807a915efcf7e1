-- Lemmas on the search for the first place whose actor has a next event.
use Rattle.std.proofs.Common.{◌≡◌, ◌∙◌, ℕ, suc, ◌+◌, ◌-◌, ◌<◌, ap, sym, arith}
use Rattle.std.specs.Prelude.{Option, Some, None}
use Rattle.bank_words.specs.declared.events.Event.{Event}
use Rattle.test_schedules.specs.Choices.{first_in, found_at}

module _ (next : ℕ → Option Event) (place end : ℕ) where
  opened : place < end → first_in next place (end - place) ≡ found_at place (next place) (first_in next (suc place) (end - suc place))
  opened low = let many : end - place ≡ suc (end - suc place) = omega (arith, low) in ap (first_in next place) many

  -- If the actor at a place has no next event, the search continues with the place after it.
  pub one_further : place < end → next place ≡ None → first_in next (place + 1) (end - (place + 1)) ≡ first_in next place (end - place)
  one_further low none = let step : place + 1 ≡ suc place = omega arith in
      ap (λ p. first_in next p (end - p)) step ∙ sym (opened low ∙ ap (λ o. found_at place o (first_in next (suc place) (end - suc place))) none)

  pub found_here : (e : Event) → place < end → next place ≡ Some e → first_in next place (end - place) ≡ Some (place, e)
  found_here e low is = opened low ∙ ap (λ o. found_at place o (first_in next (suc place) (end - suc place))) is
