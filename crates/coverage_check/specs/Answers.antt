-- The errors of acceptance.
use Rattle.std.specs.Prelude.{◌≡◌, Some}
use Rattle.scram_types.specs.Specification.{Parts}
use Rattle.coverage_check.specs.declared.acceptance.AcceptError.{AcceptError}
use Rattle.coverage_check.specs.declared.acceptance.AcceptError.TheVariants as error
use Rattle.coverage_check.specs.Acceptance.{first_refusal}

-- The error contains the specification. Unless memory ran out, it also contains the first refusal of the
-- specification.
abbrev pub IsRefusal : Parts → AcceptError → Type 0
IsRefusal spec (error.NotAccepted back shown) = (back ≡ spec) × (first_refusal spec ≡ Some shown)
IsRefusal spec (error.NoMemory back) = back ≡ spec
