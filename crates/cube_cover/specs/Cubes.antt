-- Cubes of environments, and the environments that they hold.
use Rattle.std.specs.Prelude.{◌≡◌, ℕ, ◌+◌, ◌-◌, ◌*◌, ◌^◌, ◌<◌, ◌≤◌, Bool, true, ◌&&◌, ◌||◌, ◌==◌, nat_lt, List, [], ◌∷◌, length, if◌then◌else◌}
use Rattle.std.specs.List.{list_any}
use Rattle.scram_types.specs.declared.rows.Env.{Env}
use Rattle.scram_types.specs.Specification.{Parts}
use Rattle.scram_types.specs.Bits.{has_bit}
use Rattle.scram_types.specs.Searches.{all_below}
use Rattle.choice_table.specs.Environments.{IsEnv, factor_in, in_scope, is_up_in}
use Rattle.choice_table.specs.Numbering.{value_count}
use Rattle.cube_cover.specs.declared.cubes.Cube.{Cube}

-- The digit of an environment at place `x`. Places 0 to 5 are the factors, whose digits are their values. Place `6 + p`
-- is processor `p`, with digit 0 if the processor is up and 1 if it is down.
unfoldable pub digit_in : Env → ℕ → ℕ
digit_in v x = if nat_lt x 6 then factor_in v x else (if is_up_in v (x - 6) then 0 else 1)

-- Each digit of an environment is below 4. Each factor from number 6 on has value 0. Only processors with a number
-- below 8 are up. Each environment of a specification meets these conditions.
pub record HasDigits (v : Env) : Type 0 where
  pub small : (x : ℕ) → digit_in v x < 4
  pub past : (x : ℕ) → 6 ≤ x → factor_in v x ≡ 0
  pub few : v.up < 256

-- Whether the digit of an environment at place `x` is open in a cube.
abbrev pub allows : Cube → Env → ℕ → Bool
allows cube v x = has_bit cube.bits (4 * x + digit_in v x)

-- Whether a cube holds an environment: at each place, the environment's digit is open in the cube.
unfoldable pub holds : Cube → Env → Bool
holds cube v = all_below (allows cube v) 14

-- The cube holds exactly the environments that pass a test.
abbrev pub HoldsExactly : Cube → (Env → Bool) → Type 0
HoldsExactly cube test = (v : Env) → HasDigits v → holds cube v ≡ test v

-- Whether processor `p` may be up in a cube: digit 0 is open at the processor's place.
abbrev pub may_be_up : Cube → ℕ → Bool
may_be_up cube p = has_bit cube.bits (4 * (6 + p) + 0)

-- Whether some cube of a list holds an environment.
unfoldable pub is_in : List Cube → Env → Bool
is_in cubes v = list_any (λ (cube : Cube). holds cube v) cubes

-- 1 if a test passes, or 0 if it fails.
abbrev pub once : Bool → ℕ
once test = if test then 1 else 0

-- The number of cubes of a list that hold an environment.
unfoldable pub holders : List Cube → Env → ℕ
holders [] v = 0
holders (cube ∷ cubes) v = once (holds cube v) + holders cubes v

-- Whether an environment of a specification can have digit `d` at place `x`.
unfoldable pub is_digit : Parts → ℕ → ℕ → Bool
is_digit spec x d =
    if nat_lt x 6 then (d == 0 || nat_lt d (value_count spec.factors x)) else (d == 1 || (d == 0 && nat_lt x (length spec.procs + 6)))

-- A mask with the bits of all digits at place `x`.
unfoldable pub field_of : ℕ → ℕ
field_of x = 15 * 2 ^ (4 * x)

-- `v` is an environment of the specification and is in scope.
pub record IsInScope (spec : Parts) (v : Env) : Type 0 where
  pub belongs : IsEnv spec v
  pub scope : in_scope spec v ≡ true

-- Two tests agree on each environment in scope.
abbrev pub Agree : Parts → (Env → Bool) → (Env → Bool) → Type 0
Agree spec one other = (v : Env) → IsInScope spec v → one v ≡ other v

-- If an environment in scope passes the test, the number of cubes that hold it is 1 greater in the second list than
-- in the first. Otherwise the number is the same in both lists.
abbrev pub Gain : Parts → List Cube → List Cube → (Env → Bool) → Type 0
Gain spec before after test = (v : Env) → IsInScope spec v → holders after v ≡ holders before v + once (test v)

-- An environment in scope that `by` holds is held by equally many cubes of `inside` and of `cubes`, and by no cube of
-- `outside`. Any other environment in scope is held by equally many cubes of `outside` and of `cubes`, and by no cube
-- of `inside`.
pub record IsSplit (spec : Parts) (cubes : List Cube) (by : Cube) (inside outside : List Cube) : Type 0 where
  pub within : (v : Env) → IsInScope spec v → holders inside v ≡ (if holds by v then holders cubes v else 0)
  pub beyond : (v : Env) → IsInScope spec v → holders outside v ≡ (if holds by v then 0 else holders cubes v)

-- No environment in scope is held by two cubes of the list.
abbrev pub AreDisjoint : Parts → List Cube → Type 0
AreDisjoint spec cubes = (v : Env) → IsInScope spec v → holders cubes v ≤ 1
