-- The conditions A11 and A12 on the intervals of invariants and preconditions.
use Rattle.std.specs.Prelude.{ℕ, ℤ, pos, Bool, not, ◌&&◌, ◌||◌, int_le, length, slice_get, Option, Some, None}
use Rattle.std.specs.Option.{option_map_or}
use Rattle.scram_types.specs.Lookups.{kind_of_app, place_of, conf_id}
use Rattle.scram_types.specs.declared.ids.ConfId.{ConfId}
use Rattle.scram_types.specs.declared.specification.Invariant.{Invariant}
use Rattle.scram_types.specs.declared.specification.Place.{Place}
use Rattle.scram_types.specs.declared.specification.Precondition.{Precondition}
use Rattle.scram_types.specs.Specification.{Parts}
use Rattle.scram_types.specs.Searches.{all_below, first_below}
use Rattle.choice_table.specs.Choices.{has_source}
use Rattle.kind_table.specs.Bounds.{after_init, during}
use Rattle.coverage_check.specs.declared.shown.Shown.{Shown}
use Rattle.coverage_check.specs.declared.shown.Other.TheVariants as other
use Rattle.coverage_check.specs.Search.{shown_if}
use Rattle.coverage_check.specs.Showing.{shown_at}
use Rattle.coverage_check.specs.Timing.{is_target}

-- Whether the interval from `low` to `high` contains a range.
abbrev pub holds_range : ℤ → ℤ → ℤ × ℤ → Bool
holds_range low high range = int_le low range.0 && int_le range.1 high

-- Whether an invariant's interval contains the range of its variable for a status in a mode. The status is 1 as the
-- application runs, 2 as it halts, 3 as it prepares and 4 as it initialises.
abbrev pub holds_during : Parts → Invariant → ℕ → ℕ → Bool
holds_during spec inv status mode = holds_range inv.least inv.greatest (during (kind_of_app spec inv.app.0) status mode inv.variable)

-- Whether an invariant's interval contains zero, the value of each variable of an application that is off.
abbrev pub holds_off : Invariant → Bool
holds_off inv = holds_range inv.least inv.greatest (pos 0, pos 0)

-- Whether an invariant's interval contains the values of its variable while a configuration is left, given the
-- application's place in the configuration. With a place, these are the values in the place's mode as the application
-- initialises, runs and halts. With `None`, the only value is zero.
abbrev pub holds_leaving : Parts → Invariant → Option Place → Bool
holds_leaving spec inv None = holds_off inv
holds_leaving spec inv (Some place) =
    holds_during spec inv 4 place.mode.0 && holds_during spec inv 1 place.mode.0 && holds_during spec inv 2 place.mode.0

-- Whether an invariant's interval contains the values of its variable while a target is reached and left again, given
-- the application's place in the target. With a place, these are the values as the application prepares, and those of
-- `holds_leaving`. With `None`, the only value is zero.
abbrev pub holds_reaching : Parts → Invariant → Option Place → Bool
holds_reaching spec inv None = holds_off inv
holds_reaching spec inv (Some place) = holds_during spec inv 3 place.mode.0 && holds_leaving spec inv (Some place)

-- Whether configuration `j` is not a possible target of `i`, or an invariant's interval contains the values of its
-- variable while `j` is reached and left again.
abbrev pub holds_on_way : Parts → Invariant → ConfId → ℕ → Bool
holds_on_way spec inv i j = not (is_target spec i j) || holds_reaching spec inv (place_of spec (conf_id j) inv.app.0)

-- Whether an invariant's interval contains the values of its variable while each possible target of configuration `i`
-- is reached and left again.
abbrev pub holds_reached : Parts → Invariant → ConfId → Bool
holds_reached spec inv i = all_below (holds_on_way spec inv i) (length spec.confs)

-- Whether an invariant's interval contains the values of its variable throughout all reconfigurations from
-- configuration `i`.
abbrev pub holds_from : Parts → Invariant → ConfId → Bool
holds_from spec inv i = holds_leaving spec inv (place_of spec i inv.app.0) && holds_reached spec inv i

-- Whether an invariant applies to configuration `i` and may be broken during a reconfiguration from `i`.
abbrev pub breaks_from : Parts → Invariant → ConfId → Bool
breaks_from spec inv i = has_source inv.from i && not (holds_from spec inv i)

-- The refusal of invariant `k` for the first configuration from which a reconfiguration may break the invariant, or
-- `None` if there is no such configuration. Here `inv` is invariant `k`.
abbrev pub invariant_refusal_of : Parts → ℕ → Invariant → Option Shown
invariant_refusal_of spec k inv = first_below (λ i. shown_if (breaks_from spec inv (conf_id i)) (shown_at 11 i (other.Item k))) (length spec.confs)

-- The refusal of invariant `k`, or `None` if the invariant cannot be broken or there is no invariant `k`.
abbrev pub invariant_refusal_at : Parts → ℕ → Option Shown
invariant_refusal_at spec k = option_map_or (invariant_refusal_of spec k) (slice_get spec.invariants k) None

-- A11: the refusal of the first invariant that can be broken, or `None` if none can.
abbrev pub invariant_refusal : Parts → Option Shown
invariant_refusal spec = first_below (invariant_refusal_at spec) (length spec.invariants)

-- Whether a precondition's interval contains the values that its variable can have after the application's init phase,
-- or zero if the application is off.
abbrev pub holds_entering : Parts → Precondition → Option Place → Bool
holds_entering spec pre None = holds_range pre.least pre.greatest (pos 0, pos 0)
holds_entering spec pre (Some place) = holds_range pre.least pre.greatest (after_init (kind_of_app spec pre.app.0) place.mode.0 pre.variable)

-- Whether a precondition may be broken as its configuration is entered.
abbrev pub breaks_entering : Parts → Precondition → Bool
breaks_entering spec pre = not (holds_entering spec pre (place_of spec pre.conf pre.app.0))

-- The refusal of precondition `k` if the precondition may be broken, or `None` if it may not. Here `pre` is
-- precondition `k`.
abbrev pub precondition_refusal_of : Parts → ℕ → Precondition → Option Shown
precondition_refusal_of spec k pre = shown_if (breaks_entering spec pre) (shown_at 12 pre.conf.0 (other.Item k))

-- The refusal of precondition `k`, or `None` if the precondition cannot be broken or there is no precondition `k`.
abbrev pub precondition_refusal_at : Parts → ℕ → Option Shown
precondition_refusal_at spec k = option_map_or (precondition_refusal_of spec k) (slice_get spec.preconditions k) None

-- A12: the refusal of the first precondition that may be broken, or `None` if none may.
abbrev pub precondition_refusal : Parts → Option Shown
precondition_refusal spec = first_below (precondition_refusal_at spec) (length spec.preconditions)
