-- If an environment of the specification is changed by the words of a state, the result is an environment of the
-- specification.
use Rattle.std.proofs.Common.{◌≡◌, ◌∙◌, ℕ, ◌<◌, ap, arith, length, length-set, refl, subst, sym, List}
use mathlib.Core.Logic.{inl, inr}
use Rattle.std.specs.Prelude.{slice_get, Some}
use Rattle.std.proofs.lemmas.List.{get_or-set_other, get_or-set_same}
use Rattle.std.proofs.lemmas.Nat.{pow_pos}
use Rattle.std.proofs.lemmas.Option.{option_and_then_some, slice_get_within}
use Rattle.scram_types.specs.Lookups.{opening_env, value_named}
use Rattle.scram_types.specs.Specification.{IsSpec, Parts}
use Rattle.scram_types.specs.declared.rows.Env.{Env}
use Rattle.scram_types.specs.declared.ids.FactorId.{FactorId}
use Rattle.scram_types.specs.declared.specification.Factor.{Factor}
use Rattle.scram_types.proofs.Items.{zeros_everywhere}
use Rattle.scram_types.proofs.Naturals.{same_or_not}
use Rattle.scram_types.proofs.Options.{same_some}
use Rattle.fault_script.specs.Reading.{find_value}
use Rattle.fault_script.proofs.Taken.{number_from_within}
use Rattle.choice_table.specs.Environments.{IsEnv, factor_in}
use Rattle.spec_forms.specs.choice_forms.Choosing.{with_value}

module _ (spec : Parts) (made : IsSpec spec) where
  pub opening_belongs : IsEnv spec (opening_env spec)
  opening_belongs = record {
    up = (let some = pow_pos (length spec.procs) in omega (arith, some));
    width = refl;
    values = λ x factor there. (let zero_there = zeros_everywhere 6 x in let some = (made.factors x factor there).count.enough in omega (arith, zero_there, some));
    rest = λ x past. zeros_everywhere 6 x;
  }

  value_belongs : (v : Env) (x n : ℕ) (factor : Factor) → IsEnv spec v → slice_get spec.factors x ≡ Some factor → n < length factor.values → IsEnv spec (with_value v x n)
  value_belongs v x n factor belongs there low =
      let inside = slice_get_within spec.factors x factor there in
      let few = made.factors_count in
      let width = belongs.width in
      record {
        up = belongs.up;
        width = length-set v.factors x n ∙ belongs.width;
        values = λ y other is. elim (same_or_not y x) [
          | inl same ↦
              let here : factor_in (with_value v x n) y ≡ n = ap (factor_in (with_value v x n)) same ∙ get_or-set_same v.factors x n 0 (omega (arith, inside, few, width)) in
              let it : factor ≡ other = same_some factor other (sym there ∙ ap (slice_get spec.factors) (sym same) ∙ is) in
              let most : n < length other.values = subst (λ (f : Factor). n < length f.values) it low in
              omega (arith, here, most)
          | inr apart ↦
              let here : factor_in (with_value v x n) y ≡ factor_in v y = get_or-set_other v.factors x y n 0 apart in
              let most = belongs.values y other is in
              omega (arith, here, most)
        ];
        rest = λ y past. get_or-set_other v.factors x y n 0 (λ same. let past_it = past in omega (arith, same, past_it, inside)) ∙ belongs.rest y past;
      }

  pub found_belongs : (v : Env) (x : FactorId) (text : List ℕ) (n : ℕ) → IsEnv spec v → find_value spec x text ≡ Some n → IsEnv spec (with_value v x.0 n)
  found_belongs v x text n belongs e =
      option_and_then_some (λ (factor : Factor). value_named factor text) (slice_get spec.factors x.0) n e
      (λ factor there found.
      let within = number_from_within (λ (name : List ℕ). name) text 0 n factor.values found in
      value_belongs v x.0 n factor belongs there (omega (arith, within)))
