-- The only environment that has to be checked to find out whether a demand applies to some environment in scope.
use Rattle.std.specs.Prelude.{ℕ, not, ◌==◌, List, [], ◌∷◌, length, if◌then◌else◌}
use Rattle.scram_types.specs.Bits.{bits_below, has_bit}
use Rattle.scram_types.specs.Specification.{Parts}
use Rattle.scram_types.specs.declared.rows.Env.{Env}
use Rattle.scram_types.specs.declared.demands.Demand.{Demand}
use Rattle.scram_types.specs.declared.specification.Want.{Want}

-- The value in the first requirement for factor `x`, or 0 if there is no such requirement.
abbrev pub demanded_value : List Want → ℕ → ℕ
demanded_value [] x = 0
demanded_value (want ∷ wants) x = if want.factor.0 == x then want.value else demanded_value wants x

-- The environment in which each factor has the value that a demand requires, or its first value if the demand
-- requires none. Each processor is up unless the demand requires it to be down.
abbrev pub demanded_env : Parts → Demand → Env
demanded_env spec demand = record {
  up = bits_below (λ p. not (has_bit demand.down p)) (length spec.procs);
  factors = demanded_value demand.wants 0 ∷ demanded_value demand.wants 1 ∷ demanded_value demand.wants 2 ∷ demanded_value demand.wants 3
      ∷ demanded_value demand.wants 4 ∷ demanded_value demand.wants 5 ∷ [];
}
