-- The law of filled-in specifications.
use Rattle.std.specs.Prelude.{◌≡◌, None}
use Rattle.scram_types.specs.Specification.{IsSpec, Parts}
use Rattle.coverage_check.specs.Acceptance.{Accepts, choice_refusal, form_refusal, range_refusal}
use Rattle.coverage_check.specs.Demands.{demand_refusal}
use Rattle.spec_reading.specs.Writable.{IsWritable}
use Rattle.fill_form.specs.Filling.{filled}
use Rattle.fill_form.specs.Refusing.{fill_refusal}

-- The filled-in specification satisfies `IsSpec`, can be written as a document, and is accepted.
pub record IsFilledIn (spec : Parts) : Type 0 where
  pub sound : IsSpec (filled spec)
  pub writable : IsWritable (filled spec)
  pub accepted : Accepts (filled spec)

-- If a specification breaks no condition of acceptance other than A9 and A10, and filling in is not refused, the
-- filled-in specification is accepted.
abbrev pub FilledIsAccepted : Type 0
FilledIsAccepted = (spec : Parts) → IsSpec spec → IsWritable spec
    → form_refusal spec ≡ None → choice_refusal spec ≡ None → range_refusal spec ≡ None → demand_refusal spec ≡ None
    → fill_refusal spec ≡ None → IsFilledIn spec
