-- The search for the first environment in scope that passes a test.
use Rattle.std.specs.Prelude.{ℕ, Bool, ◌&&◌, Option, Some, None, if◌then◌else◌}
use Rattle.scram_types.specs.declared.rows.Env.{Env}
use Rattle.scram_types.specs.Searches.{first_below}
use Rattle.scram_types.specs.Specification.{Parts}
use Rattle.choice_table.specs.Numbering.{environments, is_number_in_scope, numbered}

-- `Some shown` if `broken` is `true`, or `None` if it is `false`.
abbrev pub shown_if : {A : Type 0} → Bool → A → Option A
shown_if broken shown = if broken then Some shown else None

-- Environment number `n` if it is in scope and passes a test, or `None` if not.
abbrev pub passing_env_at : Parts → (Env → Bool) → ℕ → Option Env
passing_env_at spec test n = shown_if (is_number_in_scope spec n && test (numbered spec n)) (numbered spec n)

-- The first environment in scope, by number, that passes a test, or `None` if none does.
abbrev pub first_passing_env : Parts → (Env → Bool) → Option Env
first_passing_env spec test = first_below (passing_env_at spec test) (environments spec)
