-- The conditions A9 and A10 on the durations of reconfigurations.
use Rattle.std.specs.Prelude.{ℕ, suc, ◌+◌, ◌*◌, max, Bool, false, not, ◌&&◌, ◌||◌, ◌==◌, nat_le, nat_lt, List, [], ◌∷◌, length, Option}
use Rattle.std.specs.Option.{option_map_or}
use Rattle.scram_types.specs.declared.ids.ConfId.{ConfId}
use Rattle.scram_types.specs.declared.specification.Bound.{Bound}
use Rattle.scram_types.specs.declared.specification.Policy.{Policy}
use Rattle.scram_types.specs.declared.specification.Policy.TheVariants as policy
use Rattle.scram_types.specs.Specification.{Parts, bound_in}
use Rattle.scram_types.specs.Bits.{bits_below}
use Rattle.scram_types.specs.Searches.{greatest_below, first_below, any_below}
use Rattle.scram_types.specs.Lookups.{conf_id}
use Rattle.choice_table.specs.Choices.{choose}
use Rattle.choice_table.specs.Numbering.{environments, is_number_in_scope, numbered}
use Rattle.dep_order.specs.Timetables.{halting_time, initialising_time, preparing_time}
use Rattle.coverage_check.specs.declared.shown.Shown.{Shown}
use Rattle.coverage_check.specs.declared.shown.Other.TheVariants as other
use Rattle.coverage_check.specs.Search.{shown_if}
use Rattle.coverage_check.specs.Showing.{shown_at, shown_nowhere}

-- Whether configuration `j` is chosen from `i` in environment number `n`, and that environment is in scope.
abbrev pub is_chosen_in : Parts → ConfId → ℕ → ℕ → Bool
is_chosen_in spec i j n = is_number_in_scope spec n && (choose spec i (numbered spec n)).0 == j

-- Whether configuration `j` is a possible target of `i`: it is chosen from `i` in some environment in scope.
abbrev pub is_target : Parts → ConfId → ℕ → Bool
is_target spec i j = any_below (is_chosen_in spec i j) (environments spec)

-- The possible targets of configuration `i`, as bits.
abbrev pub targets : Parts → ConfId → ℕ
targets spec i = bits_below (is_target spec i) (length spec.confs)

-- The maximum number of changes of the environment, after the first one, that a reconfiguration may see, given the
-- policy and the number of changes that the failure assumption allows.
abbrev pub further : Policy → ℕ → ℕ
further policy.Retarget changes = changes
further policy.Settle changes = suc changes

-- The greatest sum, over all configurations, of the frames to prepare and to initialise, one frame, and the frames to
-- halt. No more frames pass from the choice of one target to the choice of the next.
abbrev pub slowest : Parts → ℕ
slowest spec =
    greatest_below (λ k. preparing_time spec (conf_id k) + initialising_time spec (conf_id k) + 1 + halting_time spec (conf_id k)) (length spec.confs)

-- The minimum bound that suffices for a reconfiguration from `i` to `j`, in frames.
abbrev pub least : Parts → ConfId → ConfId → ℕ
least spec i j = 1 + halting_time spec i + further spec.policy spec.changes * slowest spec + preparing_time spec j + initialising_time spec j

-- Whether a reconfiguration may end in the configuration in which it began. This requires that the environment may
-- change again during the reconfiguration.
abbrev pub can_return : Parts → Bool
can_return spec = nat_lt 0 (further spec.policy spec.changes)

-- Whether a bound from `i` to `j` is given and suffices.
abbrev pub is_bounded : Parts → ConfId → ConfId → Bool
is_bounded spec i j = option_map_or (λ (t : ℕ). nat_le (least spec i j) t) (bound_in spec.bounds i.0 j.0) false

-- Whether a reconfiguration from `i` may end in `j`. It may end in `i` itself only if `can_return` is `true`.
abbrev pub may_end_in : Parts → ConfId → ConfId → Bool
may_end_in spec i j = not (i.0 == j.0) || can_return spec

-- Whether a bound from `i` to `j` is required: `j` is a possible target of `i` in which a reconfiguration from `i` may
-- end.
abbrev pub is_bound_asked : Parts → ConfId → ℕ → Bool
is_bound_asked spec i j = is_target spec i j && may_end_in spec i (conf_id j)

-- The configurations to which a bound from `i` is required, as bits.
abbrev pub asked_bounds : Parts → ConfId → ℕ
asked_bounds spec i = bits_below (is_bound_asked spec i) (length spec.confs)

-- Whether a bound from `i` to `j` is required, but no sufficient bound is given.
abbrev pub lacks_bound : Parts → ConfId → ℕ → Bool
lacks_bound spec i j = is_bound_asked spec i j && not (is_bounded spec i (conf_id j))

-- The refusal for the first configuration to which a bound from configuration `i` is required but missing or too
-- small, or `None` if there is no such configuration.
abbrev pub bound_refusal_of : Parts → ℕ → Option Shown
bound_refusal_of spec i =
    first_below (λ j. shown_if (lacks_bound spec (conf_id i) j) (shown_at 9 i (other.Least (conf_id j) (least spec (conf_id i) (conf_id j)))))
    (length spec.confs)

-- A9: the refusal for the first configuration from which a required bound is missing or too small, or `None` if there
-- is no such configuration.
abbrev pub bound_refusal : Parts → Option Shown
bound_refusal spec = first_below (bound_refusal_of spec) (length spec.confs)

-- The greatest bound that is given, or 0 if none is given.
abbrev pub greatest_bound : List Bound → ℕ
greatest_bound [] = 0
greatest_bound (bound ∷ bounds) = max bound.frames (greatest_bound bounds)

-- Whether the window of the failure assumption is not longer than the greatest bound that is given.
abbrev pub has_short_window : Parts → Bool
has_short_window spec = nat_lt spec.window (greatest_bound spec.bounds + 1)

-- A10: the refusal if the window is not longer than the greatest bound, or `None` if it is longer.
abbrev pub window_refusal : Parts → Option Shown
window_refusal spec = shown_if (has_short_window spec) (shown_nowhere 10 (other.Count (greatest_bound spec.bounds)))
