-- The text of the choices of a specification.
use Rattle.std.specs.Prelude.{◌≡◌, ℕ, suc, List, [], length, slice_get, Some}
use Rattle.std.specs.Option.{option_map_or}
use Rattle.scram_types.specs.Lookups.{conf_id}
use Rattle.scram_types.specs.Specification.{Parts}
use Rattle.scram_types.specs.declared.rows.Env.{Env}
use Rattle.cube_cover.specs.declared.shares.Share.{Share}
use Rattle.cube_cover.specs.Shares.{AreShares, first_where, is_ruled_by}
use Rattle.cube_cover.specs.Sizes.{count_where}
use Rattle.form_base.specs.declared.status.TheConstants.{ANSWERED}
use Rattle.form_base.specs.Answers.{Gives}
use Rattle.form_base.specs.Texts.{texts_below}
use Rattle.spec_forms.specs.declared.choice_forms.tables.Table.{Table}
use Rattle.spec_forms.specs.choice_forms.Lines.{choice_line}

-- The line of rule `k` and configuration `i`, or the empty text if the rule is not the first that fits in any
-- environment in scope. If `k` is the number of rules, the line is for the environments in which no rule fits.
abbrev pub choice_text : Parts → ℕ → ℕ → List ℕ
choice_text spec i k =
    option_map_or (λ (first : Env). choice_line spec i k (count_where spec (is_ruled_by spec (conf_id i) k)) first)
    (first_where spec (is_ruled_by spec (conf_id i) k)) []

-- The lines of configuration `i`, in the order of the rules.
abbrev pub choices_text_from : Parts → ℕ → List ℕ
choices_text_from spec i = texts_below (choice_text spec i) (suc (length spec.rules))

-- The lines of all configurations, in the order of the configurations.
abbrev pub choices_text : Parts → List ℕ
choices_text spec = texts_below (choices_text_from spec) (length spec.confs)

-- The list contains the shares of each configuration, in the order of the configurations.
pub record HasShares (spec : Parts) (all : List (List Share)) : Type 0 where
  pub width : length all ≡ length spec.confs
  pub each : (i : ℕ) (shares : List Share) → slice_get all i ≡ Some shares → AreShares spec (conf_id i) shares

-- A table contains the shares of each configuration of its specification.
abbrev pub ShowsShares : Table → Type 0
ShowsShares table = HasShares table.spec table.shares.items

-- The answer has status 0, and its text lists the choices of the specification.
abbrev pub GivesChoices : Table → ℕ → List ℕ → Type 0
GivesChoices table = Gives (ANSWERED, choices_text table.spec)
