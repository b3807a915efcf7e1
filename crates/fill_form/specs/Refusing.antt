-- The reasons why a specification is not filled in.
use Rattle.std.specs.Prelude.{◌≡◌, ℕ, ◌+◌, Bool, ◌&&◌, nat_lt, length, Option}
use Rattle.std.specs.Option.{option_or}
use Rattle.scram_types.specs.declared.limits.TheConstants.{MAX_BOUND, MAX_WINDOW}
use Rattle.scram_types.specs.Lookups.{conf_id}
use Rattle.scram_types.specs.Searches.{first_below}
use Rattle.scram_types.specs.Specification.{Parts}
use Rattle.coverage_check.specs.declared.shown.Shown.{Shown}
use Rattle.coverage_check.specs.declared.shown.Other.TheVariants as other
use Rattle.coverage_check.specs.Form.{state_refusal}
use Rattle.coverage_check.specs.Search.{shown_if}
use Rattle.coverage_check.specs.Showing.{shown_at, shown_nowhere}
use Rattle.coverage_check.specs.Timing.{greatest_bound, is_bound_asked, least}
use Rattle.fill_form.specs.declared.filling.Filling.{Filling}
use Rattle.fill_form.specs.Filling.{filled_bounds}

-- Whether a bound from `i` to `j` is required and the smallest sufficient bound is above the maximum length of a
-- bound. In this case, no bound that can be given is sufficient.
abbrev pub asks_too_long : Parts → ℕ → ℕ → Bool
asks_too_long spec i j = is_bound_asked spec (conf_id i) j && nat_lt MAX_BOUND (least spec (conf_id i) (conf_id j))

-- The refusal by condition A9 for the first required bound from configuration `i` that would be too long, or `None`
-- if there is no such bound.
abbrev pub long_refusal_of : Parts → ℕ → Option Shown
long_refusal_of spec i =
    first_below (λ j. shown_if (asks_too_long spec i j) (shown_at 9 i (other.Least (conf_id j) (least spec (conf_id i) (conf_id j))))) (length spec.confs)

-- The refusal by condition A9 for the first required bound that would be too long, or `None` if there is no such
-- bound.
abbrev pub long_refusal : Parts → Option Shown
long_refusal spec = first_below (long_refusal_of spec) (length spec.confs)

-- The refusal by condition A10 if the window for a greatest bound of `greatest` frames would be above the maximum
-- length of a window, or `None` otherwise.
abbrev pub wide_refusal : ℕ → Option Shown
wide_refusal greatest = shown_if (nat_lt MAX_WINDOW (greatest + 1)) (shown_nowhere 10 (other.Count greatest))

-- The refusal of a bound or a window that would be too long, or `None` if no bound and no window would be too long.
abbrev pub length_refusal : Parts → Option Shown
length_refusal spec = option_or (long_refusal spec) (wide_refusal (greatest_bound (filled_bounds spec)))

-- The reason why a specification is not filled in, or `None` if it is filled in. A reason is that too many
-- environments are in scope, or that a bound or the window would be too long.
abbrev pub fill_refusal : Parts → Option Shown
fill_refusal spec = option_or (state_refusal spec) (length_refusal spec)

-- `filling` contains the filled-in bounds of the specification, the greatest of these bounds, and the refusal if a
-- bound or the window would be too long.
pub record IsFilling (spec : Parts) (filling : Filling) : Type 0 where
  pub bounds : filling.bounds.items ≡ filled_bounds spec
  pub greatest : filling.greatest ≡ greatest_bound (filled_bounds spec)
  pub refusal : filling.refusal ≡ length_refusal spec
