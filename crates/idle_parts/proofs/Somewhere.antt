-- Lemmas on tests that pass in some environment in scope.
use Rattle.std.proofs.Common.{◌≡◌, ◌∙◌, ap, sym, Bool, true, false}
use Rattle.std.specs.Prelude.{Option, Some, None, is_some}
use Rattle.scram_types.specs.Specification.{IsSpec, Parts}
use Rattle.scram_types.specs.declared.rows.Env.{Env}
use Rattle.scram_types.proofs.Booleans.{and_left, and_right, and_true, by_bool, true_false}
use Rattle.scram_types.proofs.Searches.{any_below_found, any_below_is}
use Rattle.choice_table.specs.Environments.{IsEnv, in_scope}
use Rattle.choice_table.specs.Numbering.{environments, is_number_in_scope, number_of, numbered}
use Rattle.cube_cover.specs.Covers.{IsLeastEnv}
use Rattle.cube_cover.specs.Sizes.{passes_at}
use Rattle.coverage_check.proofs.Reaching.{belongs_numbered, number_inside, numbered_number}
use Rattle.idle_parts.specs.Somewhere.{passes_somewhere}

-- An environment in scope in which a test passes.
pub record PassesIn (spec : Parts) (test : Env → Bool) : Type 0 where
  pub v : Env
  pub belongs : IsEnv spec v
  pub scope : in_scope spec v ≡ true
  pub passes : test v ≡ true

module _ (spec : Parts) (made : IsSpec spec) (test : Env → Bool) where
  pub passes_in : (v : Env) → IsEnv spec v → in_scope spec v ≡ true → test v ≡ true → passes_somewhere spec test ≡ true
  passes_in v belongs scope passes =
      let same = numbered_number spec made v belongs in
      any_below_is (passes_at spec test) (environments spec) (number_of spec v)
      (and_true (is_number_in_scope spec (number_of spec v)) _ (ap (in_scope spec) same ∙ scope) (ap test same ∙ passes))
      (number_inside spec made v belongs)

  pub passes_found : passes_somewhere spec test ≡ true → PassesIn spec test
  passes_found passes =
      let found = any_below_found (passes_at spec test) (environments spec) passes in
      record {
        v = numbered spec found.0;
        belongs = belongs_numbered spec made found.0 found.1;
        scope = and_left (is_number_in_scope spec found.0) _ found.2;
        passes = and_right (is_number_in_scope spec found.0) _ found.2;
      }

  pub fails_in : passes_somewhere spec test ≡ false → (v : Env) → IsEnv spec v → in_scope spec v ≡ true → test v ≡ false
  fails_in nowhere v belongs scope = by_bool (test v)
      (λ passes. true_false (passes_somewhere spec test) (passes_in v belongs scope passes) nowhere)
      (λ fails. fails)

  -- The search for the first environment in scope in which a test passes finds an environment if and only if the test
  -- passes in some environment in scope.
  pub least_passes : (o : Option Env) → IsLeastEnv spec test o → is_some o ≡ passes_somewhere spec test
  least_passes None none = by_bool (passes_somewhere spec test)
      (λ passes. let found = passes_found passes in true_false (test found.v) found.passes (none found.v found.belongs found.scope))
      (λ nowhere. sym nowhere)
  least_passes (Some v) least = sym (passes_in v least.belongs least.scope least.passes)
