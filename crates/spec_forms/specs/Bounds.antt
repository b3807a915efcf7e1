-- The text of the bounds that a specification must give.
use Rattle.std.specs.Prelude.{◌≡◌, ℕ, ◌<◌, List, [], length, slice_get, Some, if◌then◌else◌}
use Rattle.scram_types.specs.Lookups.{conf_id}
use Rattle.scram_types.specs.Specification.{Parts}
use Rattle.coverage_check.specs.Timing.{asked_bounds, is_bound_asked}
use Rattle.form_base.specs.Texts.{texts_below}
use Rattle.spec_forms.specs.Lines.{bound_line}

-- The line of the bound from `i` to `j` if it is required, or the empty text otherwise.
abbrev pub bound_text_of : Parts → ℕ → ℕ → List ℕ
bound_text_of spec i j = if is_bound_asked spec (conf_id i) j then bound_line spec (conf_id i) (conf_id j) else []

-- The lines of the required bounds from `i`, in the order of their targets.
abbrev pub bounds_text_from : Parts → ℕ → List ℕ
bounds_text_from spec i = texts_below (bound_text_of spec i) (length spec.confs)

-- The lines of all required bounds, in the order of their sources and then of their targets.
abbrev pub bounds_text : Parts → List ℕ
bounds_text spec = texts_below (bounds_text_from spec) (length spec.confs)

-- Set `i` holds, as bits, the configurations to which a bound from configuration `i` is required.
abbrev pub AreAskedBounds : Parts → List ℕ → Type 0
AreAskedBounds spec sets = (i set : ℕ) → i < length spec.confs → slice_get sets i ≡ Some set → set ≡ asked_bounds spec (conf_id i)
