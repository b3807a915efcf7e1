-- The refusals of a specification that is not accepted.
use Rattle.std.specs.Prelude.{◌≡◌, ◌⊎◌, ℕ, List, Option, Some, None}
use Rattle.scram_types.specs.Specification.{Parts}
use Rattle.coverage_check.specs.declared.shown.Shown.{Shown}
use Rattle.coverage_check.specs.Acceptance.{first_refusal}
use Rattle.form_base.specs.declared.status.TheConstants.{NOT_ACCEPTED}
use Rattle.form_base.specs.Lines.{shown_line}
use Rattle.form_base.specs.Loads.{IsOutOfMemory}

-- The status and the line that refuse a specification with the given first refusal. If the specification has no
-- refusal, the value is `None`.
abbrev pub acceptance_refusal : Parts → Option Shown → Option (ℕ × List ℕ)
acceptance_refusal spec None = None
acceptance_refusal spec (Some shown) = Some (NOT_ACCEPTED, shown_line spec shown)

-- The answer is the refusal of the specification, or the out-of-memory refusal.
abbrev pub RefusesSpecification : Parts → ℕ × List ℕ → Type 0
RefusesSpecification spec answer = (acceptance_refusal spec (first_refusal spec) ≡ Some answer) ⊎ IsOutOfMemory answer
