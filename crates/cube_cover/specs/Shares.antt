-- The environments in scope in which a rule is the first that fits.
use Rattle.std.specs.Prelude.{◌≡◌, ℕ, suc, Bool, ◌==◌, List, [], ◌∷◌, length, slice_get, Option, Some, None, if◌then◌else◌}
use Rattle.scram_types.specs.Searches.{first_below}
use Rattle.scram_types.specs.declared.rows.Env.{Env}
use Rattle.scram_types.specs.declared.ids.ConfId.{ConfId}
use Rattle.scram_types.specs.declared.specification.Choice.{Choice}
use Rattle.scram_types.specs.Specification.{Parts}
use Rattle.choice_table.specs.Choices.{rule_fits}
use Rattle.choice_table.specs.Numbering.{environments, numbered, states}
use Rattle.cube_cover.specs.declared.shares.Share.{Share}
use Rattle.cube_cover.specs.Covers.{IsLeastEnv}
use Rattle.cube_cover.specs.Cubes.{holders, IsInScope}
use Rattle.cube_cover.specs.declared.cubes.Cube.{Cube}
use Rattle.cube_cover.specs.Sizes.{count_where, passes_at, sum_below}

-- The index of the first rule that fits configuration `c` in an environment, or the number of rules if no rule fits.
abbrev pub first_rule : List Choice → ConfId → Env → ℕ
first_rule [] c v = 0
first_rule (rule ∷ rules) c v = if rule_fits c v rule then 0 else suc (first_rule rules c v)

-- Whether rule `k` is the first that fits configuration `c` in an environment. If `k` is the number of rules: whether
-- no rule fits.
abbrev pub is_ruled_by : Parts → ConfId → ℕ → Env → Bool
is_ruled_by spec c k v = first_rule spec.rules c v == k

-- The environment in scope with the smallest number that passes a test, or `None` if no environment in scope passes.
abbrev pub first_where : Parts → (Env → Bool) → Option Env
first_where spec test = first_below (λ n. if passes_at spec test n then Some (numbered spec n) else None) (environments spec)

-- `share` contains the number of environments in scope that pass the test, and the first of them, by number.
pub record IsShare (spec : Parts) (test : Env → Bool) (share : Share) : Type 0 where
  pub count : share.count ≡ count_where spec test
  pub first : IsLeastEnv spec test share.first

-- `shares` contains the share of each rule for configuration `c`, followed by the share of the environments in which
-- no rule fits.
pub record AreShares (spec : Parts) (c : ConfId) (shares : List Share) : Type 0 where
  pub width : length shares ≡ suc (length spec.rules)
  pub each : (k : ℕ) (share : Share) → slice_get shares k ≡ Some share → IsShare spec (is_ruled_by spec c k) share

-- No cube of the second list holds an environment in scope in which the rule fits configuration `c`. Each other
-- environment in scope is held by the same number of cubes in both lists.
abbrev pub HoldsRest : Parts → ConfId → Choice → List Cube → List Cube → Type 0
HoldsRest spec c rule before after = (v : Env) → IsInScope spec v → holders after v ≡ (if rule_fits c v rule then 0 else holders before v)

-- The shares of a configuration add up to the number of environments in scope.
abbrev pub SharesAddUp : Type 0
SharesAddUp = (spec : Parts) (c : ConfId) → sum_below (λ k. count_where spec (is_ruled_by spec c k)) (suc (length spec.rules)) ≡ states spec
