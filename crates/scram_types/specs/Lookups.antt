-- Lookups in a specification, by number and by name.
use Rattle.std.specs.Prelude.{ℕ, zero, suc, ◌-◌, ◌^◌, Bool, List, [], ◌∷◌, length, replicate, slice_get, Option, Some, None, is_some, option_map, option_and_then, bytes_eq, if◌then◌else◌}
use Rattle.std.specs.Option.{option_map_or}
use Rattle.scram_types.specs.declared.ids.AppId.{AppId}
use Rattle.scram_types.specs.declared.ids.ProcId.{ProcId}
use Rattle.scram_types.specs.declared.ids.ConfId.{ConfId}
use Rattle.scram_types.specs.declared.ids.FactorId.{FactorId}
use Rattle.scram_types.specs.declared.rows.Env.{Env}
use Rattle.scram_types.specs.declared.rows.Row.{Row}
use Rattle.scram_types.specs.declared.specification.Proc.{Proc}
use Rattle.scram_types.specs.declared.specification.ModeSpec.{ModeSpec}
use Rattle.scram_types.specs.declared.specification.AppSpec.{AppSpec}
use Rattle.scram_types.specs.declared.specification.Place.{Place}
use Rattle.scram_types.specs.declared.specification.Conf.{Conf}
use Rattle.scram_types.specs.declared.specification.Factor.{Factor}
use Rattle.scram_types.specs.Specification.{Parts, mode_in, place_in}

-- The id of application number `a`.
abbrev pub app_id : ℕ → AppId
app_id a = record { 0 = a }

-- The id of processor number `p`.
abbrev pub proc_id : ℕ → ProcId
proc_id p = record { 0 = p }

-- The id of configuration number `c`.
abbrev pub conf_id : ℕ → ConfId
conf_id c = record { 0 = c }

-- The id of factor number `x`.
abbrev pub factor_id : ℕ → FactorId
factor_id x = record { 0 = x }

-- The number of the first item whose name is `text`, or `None` if no item has this name. The items are numbered from
-- `i`, and `name x` is the name of item `x`.
abbrev pub number_from : {A : Type 0} → (A → List ℕ) → ℕ → List A → List ℕ → Option ℕ
number_from name i [] text = None
number_from name i (x ∷ xs) text = if bytes_eq (name x) text then Some i else number_from name (suc i) xs text

-- The index of the first item whose name is `text`, or `None` if no item has this name. `name x` is the name of item
-- `x`.
abbrev pub number_named : {A : Type 0} → (A → List ℕ) → List A → List ℕ → Option ℕ
number_named name xs text = number_from name 0 xs text

-- The application with this name, or `None` if there is no such application.
abbrev pub app_named : Parts → List ℕ → Option AppId
app_named spec text = option_map app_id (number_named (λ (app : AppSpec). app.name) spec.apps text)

-- The processor with this name, or `None` if there is no such processor.
abbrev pub proc_named : Parts → List ℕ → Option ProcId
proc_named spec text = option_map proc_id (number_named (λ (proc : Proc). proc.name) spec.procs text)

-- The configuration with this name, or `None` if there is no such configuration.
abbrev pub conf_named : Parts → List ℕ → Option ConfId
conf_named spec text = option_map conf_id (number_named (λ (conf : Conf). conf.name) spec.confs text)

-- The factor with this name, or `None` if there is no such factor.
abbrev pub factor_named : Parts → List ℕ → Option FactorId
factor_named spec text = option_map factor_id (number_named (λ (factor : Factor). factor.name) spec.factors text)

-- The index of the value with this name among a factor's values, or `None` if the factor has no such value.
abbrev pub value_named : Factor → List ℕ → Option ℕ
value_named factor text = number_named (λ (name : List ℕ). name) factor.values text

-- The name of application `a`, or the empty name if there is no such application.
abbrev pub app_name : Parts → ℕ → List ℕ
app_name spec a = option_map_or (λ (app : AppSpec). app.name) (slice_get spec.apps a) []

-- The name of processor `p`, or the empty name if there is no such processor.
abbrev pub proc_name : Parts → ℕ → List ℕ
proc_name spec p = option_map_or (λ (proc : Proc). proc.name) (slice_get spec.procs p) []

-- The name of configuration `c`, or the empty name if there is no such configuration.
abbrev pub conf_name : Parts → ℕ → List ℕ
conf_name spec c = option_map_or (λ (conf : Conf). conf.name) (slice_get spec.confs c) []

-- The name of factor `x`, or the empty name if there is no such factor.
abbrev pub factor_name : Parts → ℕ → List ℕ
factor_name spec x = option_map_or (λ (factor : Factor). factor.name) (slice_get spec.factors x) []

-- The name of value number `value` of a factor, or the empty name if the factor has no such value.
abbrev pub value_name : Factor → ℕ → List ℕ
value_name factor value = option_map_or (λ (name : List ℕ). name) (slice_get factor.values value) []

-- The kind of application `a`, or 0 if there is no such application.
abbrev pub kind_of_app : Parts → ℕ → ℕ
kind_of_app spec a = option_map_or (λ (app : AppSpec). app.kind.0) (slice_get spec.apps a) 0

-- The place of application `a` in configuration `c`. It is `None` if `a` is off there, or if `a` or `c` does not
-- exist.
abbrev pub place_of : Parts → ConfId → ℕ → Option Place
place_of spec c a = option_and_then (λ (conf : Conf). place_in conf a) (slice_get spec.confs c.0)

-- Application `a` has a place in configuration `c`.
abbrev pub is_on : Parts → ConfId → ℕ → Bool
is_on spec c a = is_some (place_of spec c a)

-- The costs of mode `m` of application `a`, or `None` if `a` does not list the mode or does not exist.
abbrev pub mode_of_app : Parts → ℕ → ℕ → Option ModeSpec
mode_of_app spec a m = option_and_then (λ (app : AppSpec). mode_in app.modes m) (slice_get spec.apps a)

-- The costs of the mode of application `a` in configuration `c`. It is `None` if `a` has no place there or does not
-- list the mode of its place.
abbrev pub mode_of : Parts → ConfId → ℕ → Option ModeSpec
mode_of spec c a = option_and_then (λ (place : Place). mode_of_app spec a place.mode.0) (place_of spec c a)

-- The environment at the start of a flight: each processor is up and each factor has its first value.
abbrev pub opening_env : Parts → Env
opening_env spec = record { up = 2 ^ length spec.procs - 1; factors = replicate 6 0 }

-- The environment of row `f` of a trace, or `None` if there is no such row.
abbrev pub env_in : List Row → ℕ → Option Env
env_in rows f = option_map (λ (row : Row). row.env) (slice_get rows f)

-- The environment of row `f - 1`, or the environment at the start of a flight if `f` is 0. It is `None` if there is
-- no row `f - 1`.
abbrev pub env_before : Parts → List Row → ℕ → Option Env
env_before spec rows zero = Some (opening_env spec)
env_before spec rows (suc f) = env_in rows f
