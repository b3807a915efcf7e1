-- The outcome of a configuration's choices over all environments in scope.
use Rattle.std.specs.Prelude.{◌≡◌, ◌^◌, ◌<◌, ◌≤◌, Bool, true, false, not, ◌==◌, nat_le, length, Option, Some, None, if◌then◌else◌}
use Rattle.scram_types.specs.declared.ids.ConfId.{ConfId}
use Rattle.scram_types.specs.declared.rows.Env.{Env}
use Rattle.scram_types.specs.Bits.{has_bit}
use Rattle.scram_types.specs.Specification.{Parts}
use Rattle.choice_table.specs.Environments.{IsEnv, in_scope}
use Rattle.choice_table.specs.Choices.{IsTarget, choose, has_rule, is_runnable}
use Rattle.choice_table.specs.Numbering.{number_of}
use Rattle.cube_cover.specs.declared.answers.Cover.{Cover}

-- `found` is an environment in scope that passes the test, and no other such environment has a smaller number.
pub record IsLeast (spec : Parts) (test : Env → Bool) (found : Env) : Type 0 where
  pub belongs : IsEnv spec found
  pub scope : in_scope spec found ≡ true
  pub passes : test found ≡ true
  pub least : (v : Env) → IsEnv spec v → in_scope spec v ≡ true → test v ≡ true → number_of spec found ≤ number_of spec v

-- The optional environment is the environment with the smallest number among the environments in scope that pass the
-- test. It is `None` if no environment in scope passes the test.
abbrev pub IsLeastEnv : Parts → (Env → Bool) → Option Env → Type 0
IsLeastEnv spec test (Some found) = IsLeast spec test found
IsLeastEnv spec test None = (v : Env) → IsEnv spec v → in_scope spec v ≡ true → test v ≡ false

-- The environment with the smaller number of two optional environments, or the first of them if their numbers are
-- equal. If only one environment is present, the value is that environment. If neither is present, the value is
-- `None`.
abbrev pub earlier_env : Parts → Option Env → Option Env → Option Env
earlier_env spec None None = None
earlier_env spec (Some v) None = Some v
earlier_env spec None (Some w) = Some w
earlier_env spec (Some v) (Some w) = if nat_le (number_of spec v) (number_of spec w) then Some v else Some w

-- Whether no rule fits configuration `i` in an environment.
abbrev pub is_unfit : Parts → ConfId → Env → Bool
is_unfit spec i v = not (has_rule spec i v)

-- Whether the configuration that is chosen from configuration `i` in an environment cannot run in that environment.
abbrev pub cannot_run : Parts → ConfId → Env → Bool
cannot_run spec i v = not (is_runnable spec (choose spec i v) v)

-- Whether another configuration is chosen, in the same environment, from the configuration that is chosen from
-- configuration `i`.
abbrev pub is_left_again : Parts → ConfId → Env → Bool
is_left_again spec i v = not ((choose spec (choose spec i v) v).0 == (choose spec i v).0)

-- `cover` is the cover of configuration `i`. Its targets are exactly the possible targets of `i`. Its environments
-- are the first in scope, by number, that satisfy `is_unfit`, `cannot_run` and `is_left_again`, each `None` if there
-- is no such environment.
pub record IsCover (spec : Parts) (i : ConfId) (cover : Cover) : Type 0 where
  pub few : cover.targets < 2 ^ length spec.confs
  pub only : (j : ConfId) → has_bit cover.targets j.0 ≡ true → IsTarget spec i j
  pub all : (j : ConfId) → IsTarget spec i j → has_bit cover.targets j.0 ≡ true
  pub unfit : IsLeastEnv spec (is_unfit spec i) cover.unfit
  pub not_runnable : IsLeastEnv spec (cannot_run spec i) cover.not_runnable
  pub unsettled : IsLeastEnv spec (is_left_again spec i) cover.unsettled
