-- The conditions A5 to A7 on the choices of the table in each environment in scope, and the condition A8 on the
-- choice from the start configuration in the opening environment.
use Rattle.std.specs.Prelude.{ℕ, Bool, not, ◌==◌, length, Option, option_map}
use Rattle.scram_types.specs.Lookups.{opening_env, conf_id}
use Rattle.scram_types.specs.declared.ids.ConfId.{ConfId}
use Rattle.scram_types.specs.declared.rows.Env.{Env}
use Rattle.scram_types.specs.Specification.{Parts}
use Rattle.scram_types.specs.Searches.{first_below}
use Rattle.choice_table.specs.Choices.{choose, has_rule, is_runnable}
use Rattle.cube_cover.specs.declared.answers.Cover.{Cover}
use Rattle.coverage_check.specs.declared.shown.Shown.{Shown}
use Rattle.coverage_check.specs.declared.shown.Other.{Other}
use Rattle.coverage_check.specs.declared.shown.Other.TheVariants as other
use Rattle.coverage_check.specs.declared.choosing.Requirement.{Requirement}
use Rattle.coverage_check.specs.declared.choosing.Requirement.TheVariants as requirement
use Rattle.coverage_check.specs.Search.{first_passing_env, shown_if}
use Rattle.coverage_check.specs.Showing.{shown_in}

-- Whether configuration `c` does not meet a requirement in an environment. `HasRule` is not met if no rule fits.
-- `CanRun` is not met if the chosen target cannot run. `Stays` is not met if another target is chosen from the chosen
-- target.
abbrev pub is_unmet : Parts → Requirement → ConfId → Env → Bool
is_unmet spec requirement.HasRule c v = not (has_rule spec c v)
is_unmet spec requirement.CanRun c v = not (is_runnable spec (choose spec c v) v)
is_unmet spec requirement.Stays c v = not ((choose spec (choose spec c v) v).0 == (choose spec c v).0)

-- The number of the condition that a requirement states.
abbrev pub number_of_requirement : Requirement → ℕ
number_of_requirement requirement.HasRule = 5
number_of_requirement requirement.CanRun = 6
number_of_requirement requirement.Stays = 7

-- The value of `other` in a refusal for configuration `c` and an environment: `Nothing` for `HasRule`, or the target
-- that is chosen from `c` for the other two requirements, `CanRun` and `Stays`.
abbrev pub target_shown : Parts → Requirement → ConfId → Env → Other
target_shown spec requirement.HasRule c v = other.Nothing
target_shown spec requirement.CanRun c v = other.Conf (choose spec c v)
target_shown spec requirement.Stays c v = other.Conf (choose spec c v)

-- The first environment in scope, by number, in which configuration `c` does not meet a requirement, or `None` if `c`
-- meets it in each environment in scope.
abbrev pub first_unmet_env : Parts → Requirement → ConfId → Option Env
first_unmet_env spec asked c = first_passing_env spec (is_unmet spec asked c)

-- The environment that a cover contains for a requirement: the first one in scope in which the requirement is not
-- met, or `None` if the requirement is met in each environment in scope.
abbrev pub unmet_of_cover : Cover → Requirement → Option Env
unmet_of_cover cover requirement.HasRule = cover.unfit
unmet_of_cover cover requirement.CanRun = cover.not_runnable
unmet_of_cover cover requirement.Stays = cover.unsettled

-- The refusal for the first environment in scope in which configuration `c` does not meet a requirement, or `None` if
-- `c` meets it in each environment in scope.
abbrev pub requirement_refusal_of : Parts → Requirement → ℕ → Option Shown
requirement_refusal_of spec asked c =
    option_map (λ (v : Env). shown_in (number_of_requirement asked) c v (target_shown spec asked (conf_id c) v)) (first_unmet_env spec asked (conf_id c))

-- The refusal for the first configuration that does not meet a requirement, or `None` if each configuration meets it.
abbrev pub requirement_refusal : Parts → Requirement → Option Shown
requirement_refusal spec asked = first_below (requirement_refusal_of spec asked) (length spec.confs)

-- Whether the table chooses another configuration from the start configuration in the opening environment.
abbrev pub leaves_start : Parts → Bool
leaves_start spec = not ((choose spec spec.start (opening_env spec)).0 == spec.start.0)

-- A8: the refusal if the table leaves the start configuration in the opening environment, or `None` if it does not.
abbrev pub start_refusal : Parts → Option Shown
start_refusal spec =
    shown_if (leaves_start spec) (shown_in 8 spec.start.0 (opening_env spec) (other.Conf (choose spec spec.start (opening_env spec))))
