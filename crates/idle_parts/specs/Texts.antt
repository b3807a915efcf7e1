-- The text of the idle parts of a specification.
use Rattle.std.specs.Prelude.{ℕ, Bool, List, [], ◌∷◌, ◌++◌, length, slice_get, codes, decimal, if◌then◌else◌}
use Rattle.std.specs.Option.{option_map_or}
use Rattle.scram_types.specs.Lookups.{app_name, conf_name, factor_name, kind_of_app, proc_name}
use Rattle.scram_types.specs.Specification.{Parts}
use Rattle.scram_types.specs.declared.specification.AppSpec.{AppSpec}
use Rattle.scram_types.specs.declared.specification.Bound.{Bound}
use Rattle.scram_types.specs.declared.demands.Demand.{Demand}
use Rattle.scram_types.specs.declared.specification.ModeSpec.{ModeSpec}
use Rattle.kind_table.specs.Names.{mode_text}
use Rattle.form_base.specs.Texts.{texts_below}
use Rattle.idle_parts.specs.declared.lines.PartKind.{PartKind}
use Rattle.idle_parts.specs.declared.lines.PartKind.TheVariants as kind
use Rattle.idle_parts.specs.Choices.{is_bound_idle, is_conf_idle, is_rule_idle}
use Rattle.idle_parts.specs.Lines.{idle_line, pair_text}
use Rattle.idle_parts.specs.Places.{is_app_idle, is_mode_idle, is_proc_idle}
use Rattle.idle_parts.specs.Wants.{is_demand_idle, is_factor_idle}

-- The line of a part with this kind and name, or the empty text if the part is not idle.
abbrev pub line_if : Bool → PartKind → List ℕ → List ℕ
line_if is_idle kind name = if is_idle then idle_line kind name else []

-- The line of rule `k` if it is idle, or the empty text otherwise.
abbrev pub idle_rule_text : Parts → ℕ → List ℕ
idle_rule_text spec k = line_if (is_rule_idle spec k) kind.Rule (decimal k)

-- The line of configuration number `c` if it is idle, or the empty text otherwise.
abbrev pub idle_conf_text : Parts → ℕ → List ℕ
idle_conf_text spec c = line_if (is_conf_idle spec c) kind.Conf (conf_name spec c)

-- The line of factor `x` if it is idle, or the empty text otherwise.
abbrev pub idle_factor_text : Parts → ℕ → List ℕ
idle_factor_text spec x = line_if (is_factor_idle spec x) kind.Factor (factor_name spec x)

-- The line of a bound if it is idle, or the empty text otherwise.
abbrev pub idle_bound_text : Parts → Bound → List ℕ
idle_bound_text spec bound = line_if (is_bound_idle spec bound) kind.Bound (pair_text spec bound)

-- The line of bound number `k` if it is idle, or the empty text otherwise.
abbrev pub idle_bound_text_at : Parts → ℕ → List ℕ
idle_bound_text_at spec k = option_map_or (idle_bound_text spec) (slice_get spec.bounds k) []

-- The line of a mode of application number `a` if the mode is idle, or the empty text otherwise.
abbrev pub mode_line : Parts → ℕ → ModeSpec → List ℕ
mode_line spec a listed =
    line_if (is_mode_idle spec a listed.mode.0) kind.Mode (app_name spec a ++ codes " " ++ mode_text (kind_of_app spec a) listed.mode.0)

-- The lines of the idle modes among these modes of application number `a`.
abbrev pub idle_modes_text : Parts → ℕ → List ModeSpec → List ℕ
idle_modes_text spec a [] = []
idle_modes_text spec a (listed ∷ modes) = mode_line spec a listed ++ idle_modes_text spec a modes

-- The lines of the idle modes of application number `a`.
abbrev pub idle_modes_text_of : Parts → ℕ → List ℕ
idle_modes_text_of spec a = option_map_or (λ (app : AppSpec). idle_modes_text spec a app.modes) (slice_get spec.apps a) []

-- The line of application number `a` if it is idle, or the empty text otherwise.
abbrev pub idle_app_text : Parts → ℕ → List ℕ
idle_app_text spec a = line_if (is_app_idle spec a) kind.App (app_name spec a)

-- The line of processor `p` if it is idle, or the empty text otherwise.
abbrev pub idle_proc_text : Parts → ℕ → List ℕ
idle_proc_text spec p = line_if (is_proc_idle spec p) kind.Proc (proc_name spec p)

-- The line of a demand if it is idle, or the empty text otherwise.
abbrev pub idle_demand_text : Parts → Demand → List ℕ
idle_demand_text spec demand = line_if (is_demand_idle spec demand) kind.Demand demand.name

-- The line of demand number `k` if it is idle, or the empty text otherwise.
abbrev pub idle_demand_text_at : Parts → ℕ → List ℕ
idle_demand_text_at spec k = option_map_or (idle_demand_text spec) (slice_get spec.demands k) []

-- The line of part number `n` of a kind if the part is idle, or the empty text otherwise. For the kind `Mode`, the
-- text has the lines of the idle modes of application number `n`.
abbrev pub idle_part_text : Parts → PartKind → ℕ → List ℕ
idle_part_text spec kind.Rule n = idle_rule_text spec n
idle_part_text spec kind.Conf n = idle_conf_text spec n
idle_part_text spec kind.Factor n = idle_factor_text spec n
idle_part_text spec kind.Bound n = idle_bound_text_at spec n
idle_part_text spec kind.Mode n = idle_modes_text_of spec n
idle_part_text spec kind.App n = idle_app_text spec n
idle_part_text spec kind.Proc n = idle_proc_text spec n
idle_part_text spec kind.Demand n = idle_demand_text_at spec n

-- The number of parts of a kind in a specification. For the kind `Mode`, this is the number of applications.
abbrev pub part_count : Parts → PartKind → ℕ
part_count spec kind.Rule = length spec.rules
part_count spec kind.Conf = length spec.confs
part_count spec kind.Factor = length spec.factors
part_count spec kind.Bound = length spec.bounds
part_count spec kind.Mode = length spec.apps
part_count spec kind.App = length spec.apps
part_count spec kind.Proc = length spec.procs
part_count spec kind.Demand = length spec.demands

-- The lines of the idle parts of a kind, in the order of the specification.
abbrev pub kind_lines : Parts → PartKind → List ℕ
kind_lines spec kind = texts_below (idle_part_text spec kind) (part_count spec kind)

-- The lines of the idle parts of a specification, kind by kind.
abbrev pub idle_text : Parts → List ℕ
idle_text spec =
    kind_lines spec kind.Rule ++ kind_lines spec kind.Conf ++ kind_lines spec kind.Factor ++ kind_lines spec kind.Bound
    ++ kind_lines spec kind.Mode ++ kind_lines spec kind.App ++ kind_lines spec kind.Proc ++ kind_lines spec kind.Demand
