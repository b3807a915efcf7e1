-- The outcome of one target over the environments in which it is chosen.
use Rattle.std.specs.Prelude.{◌≡◌, ℕ, Bool, true, not, ◌&&◌, ◌==◌}
use Rattle.scram_types.specs.declared.ids.ConfId.{ConfId}
use Rattle.scram_types.specs.declared.rows.Env.{Env}
use Rattle.scram_types.specs.Lookups.{conf_id}
use Rattle.scram_types.specs.Specification.{Parts}
use Rattle.choice_table.specs.Choices.{IsTarget, choose, is_runnable}
use Rattle.cube_cover.specs.declared.covers.Finding.{Finding}
use Rattle.cube_cover.specs.Covers.{IsLeastEnv}

-- Whether configuration `t` is chosen from configuration `i` in an environment.
abbrev pub is_chosen_at : Parts → ConfId → ℕ → Env → Bool
is_chosen_at spec i t v = (choose spec i v).0 == t

-- Whether target `t` is chosen from configuration `i` in an environment in which `t` cannot run.
abbrev pub is_stuck_at : Parts → ConfId → ℕ → Env → Bool
is_stuck_at spec i t v = is_chosen_at spec i t v && not (is_runnable spec (conf_id t) v)

-- Whether target `t` is chosen from configuration `i` in an environment, and another target is chosen from `t` in the
-- same environment.
abbrev pub is_left_at : Parts → ConfId → ℕ → Env → Bool
is_left_at spec i t v = is_chosen_at spec i t v && not ((choose spec (conf_id t) v).0 == t)

-- `finding` is the finding on target `t` of configuration `i`. It contains whether `t` is a possible target of `i`.
-- It also contains the first environments in scope, by number, that satisfy `is_stuck_at` and `is_left_at`, each
-- `None` if there is no such environment.
pub record IsFinding (spec : Parts) (i : ConfId) (t : ℕ) (finding : Finding) : Type 0 where
  pub only : finding.is_chosen ≡ true → IsTarget spec i (conf_id t)
  pub all : IsTarget spec i (conf_id t) → finding.is_chosen ≡ true
  pub not_runnable : IsLeastEnv spec (is_stuck_at spec i t) finding.not_runnable
  pub unsettled : IsLeastEnv spec (is_left_at spec i t) finding.unsettled
