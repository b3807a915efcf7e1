-- The number of each environment, and the environment of each number.
use Rattle.std.specs.Prelude.{◌≡◌, ℕ, ◌+◌, ◌-◌, ◌*◌, ◌/◌, ◌%◌, ◌^◌, ◌<◌, ◌≤◌, Bool, true, false, not, nat_le, nat_lt, List, [], ◌∷◌, ◌++◌, length, replicate, slice_get, Option, Some, None, if◌then◌else◌}
use Rattle.std.specs.Option.{option_map_or}
use Rattle.scram_types.specs.Bits.{bits_below, count_below, has_bit}
use Rattle.scram_types.specs.declared.rows.Env.{Env}
use Rattle.scram_types.specs.declared.specification.Factor.{Factor}
use Rattle.scram_types.specs.Specification.{Parts}
use Rattle.choice_table.specs.Environments.{in_scope, is_up_in}

-- The set of processors that are down, as bits.
abbrev pub down_set : Parts → Env → ℕ
down_set spec v = bits_below (λ p. not (is_up_in v p)) (length spec.procs)

-- The number of values of factor `x`.
abbrev pub value_count : List Factor → ℕ → ℕ
value_count factors x = option_map_or (λ (factor : Factor). length factor.values) (slice_get factors x) 0

-- The number of ways to choose one value for each factor. It is the product of the factors' numbers of values.
abbrev pub combinations : List Factor → ℕ
combinations [] = 1
combinations (factor ∷ factors) = length factor.values * combinations factors

-- The mixed-radix number of the factors' values. The first factor is the most significant digit.
abbrev pub digits_of : List Factor → List ℕ → ℕ
digits_of [] values = 0
digits_of (factor ∷ factors) [] = 0
digits_of (factor ∷ factors) (value ∷ values) = value * combinations factors + digits_of factors values

-- The factors' values that a mixed-radix number encodes.
abbrev pub values_of : List Factor → ℕ → List ℕ
values_of [] digits = []
values_of (factor ∷ factors) digits = digits / combinations factors ∷ values_of factors (digits % combinations factors)

-- The number of an environment: the set of processors that are down, as bits, times the number of combinations of the
-- factors' values, plus the mixed-radix number of these values.
abbrev pub number_of : Parts → Env → ℕ
number_of spec v = down_set spec v * combinations spec.factors + digits_of spec.factors v.factors

-- The number of environments. The environments are numbered from 0 to one less than this number.
abbrev pub environments : Parts → ℕ
environments spec = 2 ^ length spec.procs * combinations spec.factors

-- The environment with number `n`. As `n` grows, the set of processors that are up, as bits, counts down from the set
-- of all processors. For each set, the values of the factors count up.
abbrev pub numbered : Parts → ℕ → Env
numbered spec n = record {
  up = 2 ^ length spec.procs - 1 - n / combinations spec.factors;
  factors = values_of spec.factors (n % combinations spec.factors) ++ replicate (6 - length spec.factors) 0;
}

-- The environment with number `n`, or `None` if no environment has this number.
abbrev pub env_of : Parts → ℕ → Option Env
env_of spec n = if nat_lt n (environments spec) then Some (numbered spec n) else None

-- Whether the failure assumption allows the processors of the set `down` to be down at the same time.
abbrev pub is_down_in_scope : Parts → ℕ → Bool
is_down_in_scope spec down =
    nat_le (count_below (λ p. not (has_bit (2 ^ length spec.procs - 1 - down) p)) (length spec.procs)) spec.halts

-- Whether the environment with number `n` is in scope.
abbrev pub is_number_in_scope : Parts → ℕ → Bool
is_number_in_scope spec n = in_scope spec (numbered spec n)

-- The number of environments in scope.
abbrev pub states : Parts → ℕ
states spec = count_below (is_number_in_scope spec) (environments spec)

-- Of the numbers of environments in scope, `n` is the smallest that is at least `low`.
pub record IsNextInScope (spec : Parts) (low n : ℕ) : Type 0 where
  pub from : low ≤ n
  pub inside : n < environments spec
  pub scope : is_number_in_scope spec n ≡ true
  pub least : (k : ℕ) → low ≤ k → k < n → is_number_in_scope spec k ≡ false

-- No environment with a number of at least `low` is in scope.
abbrev pub NoneInScope : Parts → ℕ → Type 0
NoneInScope spec low = (k : ℕ) → low ≤ k → k < environments spec → is_number_in_scope spec k ≡ false
