-- Processors that are up, and environments that are in scope.
use Rattle.std.specs.Prelude.{◌≡◌, ℕ, ◌^◌, ◌<◌, ◌≤◌, Bool, not, nat_le, length, slice_get, slice_index, Some}
use Rattle.scram_types.specs.Bits.{count_below, has_bit}
use Rattle.scram_types.specs.declared.rows.Env.{Env}
use Rattle.scram_types.specs.declared.specification.Factor.{Factor}
use Rattle.scram_types.specs.Specification.{Parts}

-- Whether processor `p` is up in an environment.
abbrev pub is_up_in : Env → ℕ → Bool
is_up_in v p = has_bit v.up p

-- The value of factor `x`, as an index in the factor's values.
abbrev pub factor_in : Env → ℕ → ℕ
factor_in v x = slice_index v.factors x

-- The number of processors that are down in an environment.
abbrev pub down_count : Parts → Env → ℕ
down_count spec v = count_below (λ p. not (is_up_in v p)) (length spec.procs)

-- Whether an environment is in scope: the number of processors that are down is at most the number that the failure
-- assumption allows.
abbrev pub in_scope : Parts → Env → Bool
in_scope spec v = nat_le (down_count spec v) spec.halts

-- Environment `v` belongs to the specification. Its set of processors has no bit past the last processor. The
-- environment has six entries for factors. The entry of each factor is the index of one of the factor's values, and
-- the entries past the last factor are zero.
pub record IsEnv (spec : Parts) (v : Env) : Type 0 where
  pub up : v.up < 2 ^ length spec.procs
  pub width : length v.factors ≡ 6
  pub values : (x : ℕ) (factor : Factor) → slice_get spec.factors x ≡ Some factor → factor_in v x < length factor.values
  pub rest : (x : ℕ) → length spec.factors ≤ x → factor_in v x ≡ 0
