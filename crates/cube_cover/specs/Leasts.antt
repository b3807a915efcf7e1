-- The environment that has the smallest open digit of a cube at each place.
use Rattle.std.specs.Prelude.{ℕ, ◌+◌, ◌*◌, Bool, [], ◌∷◌, length, if◌then◌else◌}
use Rattle.scram_types.specs.declared.rows.Env.{Env}
use Rattle.scram_types.specs.Specification.{Parts}
use Rattle.scram_types.specs.Bits.{bits_below, has_bit}
use Rattle.scram_types.specs.Searches.{all_below}
use Rattle.choice_table.specs.Environments.{factor_in}
use Rattle.cube_cover.specs.declared.cubes.Cube.{Cube}
use Rattle.cube_cover.specs.Cubes.{is_digit, may_be_up}

-- The smallest digit that is open at place `x`, or 3 if none of the digits 0 to 2 is open.
unfoldable pub least_digit : Cube → ℕ → ℕ
least_digit cube x =
    if has_bit cube.bits (4 * x + 0) then 0 else (if has_bit cube.bits (4 * x + 1) then 1 else (if has_bit cube.bits (4 * x + 2) then 2 else 3))

-- The environment that has the smallest open digit of a cube at each place. Processors whose number is not below the
-- number of processors are not up.
abbrev pub least_env : Parts → Cube → Env
least_env spec cube = record {
  up = bits_below (may_be_up cube) (length spec.procs);
  factors = least_digit cube 0 ∷ least_digit cube 1 ∷ least_digit cube 2 ∷ least_digit cube 3 ∷ least_digit cube 4 ∷ least_digit cube 5 ∷ [];
}

-- Whether each factor of an environment has a value that the specification allows.
unfoldable pub belongs : Parts → Env → Bool
belongs spec v = all_below (λ x. is_digit spec x (factor_in v x)) 6
