-- Lookups of names in a specification.
use Rattle.scram_types.specs.Lookups.{conf_named, number_named}
use Rattle.std.specs.Prelude.{ℕ, List, [], ◌∷◌, Option, Some, None, option_map, option_and_then, slice_get, bytes_eq, codes, if◌then◌else◌}
use Rattle.scram_types.specs.declared.ids.ConfId.{ConfId}
use Rattle.scram_types.specs.declared.ids.Mode.{Mode}
use Rattle.scram_types.specs.declared.specification.AppSpec.{AppSpec}
use Rattle.scram_types.specs.declared.specification.ModeSpec.{ModeSpec}
use Rattle.scram_types.specs.Specification.{Parts}
use Rattle.kind_table.specs.Names.{mode_text}

-- The configuration of this name, `Some None` for `-`, or `None` if the name is unknown.
abbrev pub conf_or_none : Parts → List ℕ → Option (Option ConfId)
conf_or_none spec text = if bytes_eq text (codes "-") then Some None else option_map (λ (c : ConfId). Some c) (conf_named spec text)

-- The number of the first application of this name, or `None` if no application has it.
abbrev pub app_number : Parts → List ℕ → Option ℕ
app_number spec text = number_named (λ (app : AppSpec). app.name) spec.apps text

-- The first mode of a list whose name, in the given kind of application, is this text, or `None` if there is none.
abbrev pub mode_from : ℕ → List ℕ → List ModeSpec → Option Mode
mode_from kind text [] = None
mode_from kind text (listed ∷ modes) = if bytes_eq (mode_text kind listed.mode.0) text then Some listed.mode else mode_from kind text modes

-- The mode of this name that application `a` lists, or `None` if `a` does not exist or lists no such mode.
abbrev pub listed_mode : Parts → ℕ → List ℕ → Option Mode
listed_mode spec a text = option_and_then (λ (app : AppSpec). mode_from app.kind.0 text app.modes) (slice_get spec.apps a)
