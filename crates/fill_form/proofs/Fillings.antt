-- Lemmas that if a specification gets the bounds and the window that were found for it, the result is the filled-in
-- specification.
use Rattle.std.proofs.Common.{◌≡◌, ◌∙◌, ℕ, ◌+◌, ap, sym, subst, List, ◌++◌}
use Rattle.std.specs.Prelude.{None, codes, max}
use Rattle.scram_types.specs.declared.specification.Bound.{Bound}
use Rattle.scram_types.specs.Specification.{IsSpec, Parts}
use Rattle.spec_reading.specs.Writable.{IsWritable}
use Rattle.reconf_spec.specs.Texts.{spec_text}
use Rattle.fill_form.specs.declared.filling.Filling.{Filling}
use Rattle.fill_form.specs.Filling.{filled, filled_bounds, filled_text, with_times}
use Rattle.fill_form.specs.Refusing.{IsFilling}
use Rattle.fill_form.proofs.Filled.{filled_is_spec}

module _ (spec : Parts) (filling : Filling) (window : ℕ) (is : IsFilling spec filling) (wide : window ≡ max spec.window (filling.greatest + 1)) where
  pub filling_is : with_times spec filling.bounds.items window ≡ filled spec
  filling_is =
      ap (λ (bounds : List Bound). with_times spec bounds window) is.bounds
      ∙ ap (with_times spec (filled_bounds spec)) (wide ∙ ap (λ (greatest : ℕ). max spec.window (greatest + 1)) is.greatest)

  pub filling_is_spec : IsSpec spec → IsWritable spec → filling.refusal ≡ None → IsSpec (with_times spec filling.bounds.items window)
  filling_is_spec made writable none = subst IsSpec (sym filling_is) (filled_is_spec spec made writable (sym is.refusal ∙ none))

  pub filling_text : (written : Parts) → written ≡ with_times spec filling.bounds.items window → spec_text written ++ codes "\n" ≡ filled_text spec
  filling_text written same = ap (λ (s : Parts). spec_text s ++ codes "\n") (same ∙ filling_is)
