-- Tests of single configurations: whether a needed application is off, and whether an earlier configuration is the
-- same.
use Rattle.std.specs.Prelude.{ℕ, Bool, false, not, ◌&&◌, ◌==◌, List, slice_get, Option}
use Rattle.std.specs.List.{list_any}
use Rattle.std.specs.Option.{option_map_or}
use Rattle.scram_types.specs.declared.ids.AppId.{AppId}
use Rattle.scram_types.specs.declared.ids.ConfId.{ConfId}
use Rattle.scram_types.specs.declared.specification.AppSpec.{AppSpec}
use Rattle.scram_types.specs.Lookups.{conf_id, is_on}
use Rattle.scram_types.specs.Searches.{first_below}
use Rattle.scram_types.specs.Specification.{Parts}
use Rattle.coverage_check.specs.Form.{is_same}
use Rattle.coverage_check.specs.Search.{shown_if}

-- Whether a list contains application `b`.
abbrev pub is_one_of : List AppId → ℕ → Bool
is_one_of needs b = list_any (λ (needed : AppId). needed.0 == b) needs

-- Whether application `a` needs application `b`.
abbrev pub is_needed : Parts → ℕ → ℕ → Bool
is_needed spec a b = option_map_or (λ (app : AppSpec). is_one_of app.needs b) (slice_get spec.apps a) false

-- Whether application `a` is on in configuration `c`, `a` needs application `b`, and `b` is off in `c`.
abbrev pub is_need_off : Parts → ConfId → ℕ → ℕ → Bool
is_need_off spec c a b = is_on spec c a && (is_needed spec a b && not (is_on spec c b))

-- The first configuration before configuration `c` that is the same as `c`, or `None` if there is none.
abbrev pub first_twin : Parts → ℕ → Option ConfId
first_twin spec c = first_below (λ d. shown_if (is_same spec (conf_id c) (conf_id d)) (conf_id d)) c
