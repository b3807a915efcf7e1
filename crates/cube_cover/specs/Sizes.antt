-- The number of environments in scope that cubes hold.
use Rattle.std.specs.Prelude.{ℕ, zero, suc, ◌+◌, ◌-◌, ◌*◌, ◌^◌, Bool, true, ◌&&◌, List, [], ◌∷◌, length, if◌then◌else◌}
use Rattle.scram_types.specs.Bits.{count_below, has_bit}
use Rattle.scram_types.specs.Searches.{all_below}
use Rattle.scram_types.specs.declared.rows.Env.{Env}
use Rattle.scram_types.specs.declared.specification.Factor.{Factor}
use Rattle.scram_types.specs.Specification.{Parts}
use Rattle.choice_table.specs.Numbering.{environments, is_down_in_scope, is_number_in_scope, numbered}
use Rattle.cube_cover.specs.declared.cubes.Cube.{Cube}

-- Whether environment number `n` is in scope and passes a test.
abbrev pub passes_at : Parts → (Env → Bool) → ℕ → Bool
passes_at spec test n = is_number_in_scope spec n && test (numbered spec n)

-- The number of environments in scope that pass a test.
abbrev pub count_where : Parts → (Env → Bool) → ℕ
count_where spec test = count_below (passes_at spec test) (environments spec)

-- The sum of a function's values at the numbers below `n`.
abbrev pub sum_below : (ℕ → ℕ) → ℕ → ℕ
sum_below value zero = 0
sum_below value (suc n) = sum_below value n + value n

-- Whether digit `d` is open at place `x` of a cube.
abbrev pub is_open_digit : Cube → ℕ → ℕ → Bool
is_open_digit cube x d = has_bit cube.bits (4 * x + d)

-- The digit of processor `p`: 0 if the processor is in the set `up`, else 1.
abbrev pub digit_of_processor : ℕ → ℕ → ℕ
digit_of_processor up p = if has_bit up p then 0 else 1

-- Whether a cube allows exactly the processors of the set `up` to be up.
abbrev pub allows_up : Cube → ℕ → Bool
allows_up cube up = all_below (λ p. is_open_digit cube (6 + p) (digit_of_processor up p)) 8

-- Whether a cube and the scope allow exactly the processors of the set `down` to be down.
abbrev pub is_down_held : Parts → Cube → ℕ → Bool
is_down_held spec cube down = allows_up cube (2 ^ length spec.procs - 1 - down) && is_down_in_scope spec down

-- Whether each value of a list is open in a cube: the first value at place `x`, and each further value at the next
-- place.
abbrev pub are_open : Cube → ℕ → List ℕ → Bool
are_open cube x [] = true
are_open cube x (value ∷ values) = is_open_digit cube x value && are_open cube (suc x) values

-- The number of ways to choose one open value for each factor in a list. The first factor is at place `x` of a cube,
-- and each further factor at the next place.
abbrev pub open_ways : Cube → ℕ → List Factor → ℕ
open_ways cube x [] = 1
open_ways cube x (factor ∷ factors) = count_below (is_open_digit cube x) (length factor.values) * open_ways cube (suc x) factors
