-- The conditions A1 to A4: the needs of applications are met, not too many environments are in scope, configurations
-- are distinct and not empty, and no processor is overloaded.
use Rattle.std.specs.Prelude.{ℕ, zero, suc, ◌+◌, Bool, true, false, not, ◌&&◌, ◌==◌, nat_lt, List, length, slice_get, Option, Some, None, if◌then◌else◌}
use Rattle.std.specs.Option.{option_map_or}
use Rattle.std.specs.List.{list_any}
use Rattle.scram_types.specs.declared.limits.TheConstants.{MAX_ENVIRONMENTS}
use Rattle.scram_types.specs.declared.ids.AppId.{AppId}
use Rattle.scram_types.specs.declared.ids.ConfId.{ConfId}
use Rattle.scram_types.specs.declared.specification.AppSpec.{AppSpec}
use Rattle.scram_types.specs.declared.specification.ModeSpec.{ModeSpec}
use Rattle.scram_types.specs.declared.specification.Place.{Place}
use Rattle.scram_types.specs.declared.specification.Proc.{Proc}
use Rattle.scram_types.specs.Specification.{Parts}
use Rattle.scram_types.specs.Lookups.{mode_of, is_on, place_of, conf_id, app_id, proc_id}
use Rattle.scram_types.specs.Searches.{all_below, first_below}
use Rattle.choice_table.specs.Numbering.{states}
use Rattle.coverage_check.specs.declared.shown.Shown.{Shown}
use Rattle.coverage_check.specs.declared.shown.Other.TheVariants as other
use Rattle.coverage_check.specs.Search.{shown_if}
use Rattle.coverage_check.specs.Showing.{shown_at, shown_nowhere}

-- Whether some application of a list is off in configuration `c`.
abbrev pub has_off : Parts → ConfId → List AppId → Bool
has_off spec c needs = list_any (λ (needed : AppId). not (is_on spec c needed.0)) needs

-- Whether some application that `a` needs is off in configuration `c`.
abbrev pub has_off_need : Parts → ConfId → ℕ → Bool
has_off_need spec c a = option_map_or (λ (needing : AppSpec). has_off spec c needing.needs) (slice_get spec.apps a) false

-- Whether application `a` is on in configuration `c` while some application that it needs is off.
abbrev pub lacks_need : Parts → ConfId → ℕ → Bool
lacks_need spec c a = is_on spec c a && has_off_need spec c a

-- Whether more than `MAX_ENVIRONMENTS` environments are in scope.
abbrev pub has_too_many_states : Parts → Bool
has_too_many_states spec = nat_lt MAX_ENVIRONMENTS (states spec)

-- Whether no application is on in configuration `c`.
abbrev pub is_empty : Parts → ConfId → Bool
is_empty spec c = all_below (λ a. not (is_on spec c a)) 8

-- Whether two optional places are the same: both are absent, or both have the same mode on the same processor.
abbrev pub is_same_place : Option Place → Option Place → Bool
is_same_place None None = true
is_same_place None (Some other) = false
is_same_place (Some one) None = false
is_same_place (Some one) (Some other) = one.mode.0 == other.mode.0 && one.proc.0 == other.proc.0

-- Whether configurations `c` and `d` give every application the same mode and processor.
abbrev pub is_same : Parts → ConfId → ConfId → Bool
is_same spec c d = all_below (λ a. is_same_place (place_of spec c a) (place_of spec d a)) 8

-- The load of application `a` on processor `p` in configuration `c`. The load is 0 if the application is not placed
-- on `p` or its mode does not exist.
abbrev pub load_of : Parts → ConfId → ℕ → ℕ → ℕ
load_of spec c p a =
    if option_map_or (λ (place : Place). place.proc.0 == p) (place_of spec c a) false
    then option_map_or (λ (listed : ModeSpec). listed.load) (mode_of spec c a) 0 else 0

-- The load that the first `n` applications put on processor `p` in configuration `c`.
abbrev pub load_below : Parts → ConfId → ℕ → ℕ → ℕ
load_below spec c p zero = 0
load_below spec c p (suc n) = load_below spec c p n + load_of spec c p n

-- The capacity of processor `p` in load units, or 0 if there is no such processor.
abbrev pub capacity_of : Parts → ℕ → ℕ
capacity_of spec p = option_map_or (λ (processor : Proc). processor.capacity) (slice_get spec.procs p) 0

-- Whether configuration `c` loads processor `p` beyond its capacity.
abbrev pub is_overloaded : Parts → ConfId → ℕ → Bool
is_overloaded spec c p = nat_lt (capacity_of spec p) (load_below spec c p (length spec.apps))

-- The refusal for the first application that is on in configuration `c` while an application that it needs is off, or
-- `None` if there is no such application.
abbrev pub need_refusal_in : Parts → ℕ → Option Shown
need_refusal_in spec c = first_below (λ a. shown_if (lacks_need spec (conf_id c) a) (shown_at 1 c (other.App (app_id a)))) (length spec.apps)

-- A1: the refusal for the first configuration in which an application is on while an application that it needs is
-- off, or `None` if there is no such configuration.
abbrev pub need_refusal : Parts → Option Shown
need_refusal spec = first_below (need_refusal_in spec) (length spec.confs)

-- A2: the refusal if more than `MAX_ENVIRONMENTS` environments are in scope, or `None` otherwise.
abbrev pub state_refusal : Parts → Option Shown
state_refusal spec = shown_if (has_too_many_states spec) (shown_nowhere 2 (other.Count (states spec)))

-- The refusal for configuration `c` with the first earlier configuration that is the same, or `None` if there is no
-- such configuration.
abbrev pub twin_refusal_of : Parts → ℕ → Option Shown
twin_refusal_of spec c = first_below (λ d. shown_if (is_same spec (conf_id c) (conf_id d)) (shown_at 3 c (other.Conf (conf_id d)))) c

-- The refusal for configuration `c` if it has no application on or is the same as an earlier one, or `None` if
-- neither is the case.
abbrev pub shape_refusal_of : Parts → ℕ → Option Shown
shape_refusal_of spec c = if is_empty spec (conf_id c) then Some (shown_at 3 c other.Nothing) else twin_refusal_of spec c

-- A3: the refusal for the first configuration that has no application on or is the same as an earlier one, or `None`
-- if there is no such configuration.
abbrev pub shape_refusal : Parts → Option Shown
shape_refusal spec = first_below (shape_refusal_of spec) (length spec.confs)

-- The refusal for the first processor that configuration `c` loads beyond its capacity, or `None` if there is no such
-- processor.
abbrev pub load_refusal_in : Parts → ℕ → Option Shown
load_refusal_in spec c = first_below (λ p. shown_if (is_overloaded spec (conf_id c) p) (shown_at 4 c (other.Proc (proc_id p)))) (length spec.procs)

-- A4: the refusal for the first configuration that loads a processor beyond its capacity, or `None` if there is no
-- such configuration.
abbrev pub load_refusal : Parts → Option Shown
load_refusal spec = first_below (load_refusal_in spec) (length spec.confs)
