use Rattle.std.proofs.Common.{◌≡◌, drop}
use Rattle.std.specs.Prelude.{is_some}
use Rattle.scram_types.specs.Specification.{mode_in}
use Rattle.spec_reading.proofs.applications.is_listed.Given as goal

abbrev pub invariant-loop-listed : goal.invariant-loop-listed
invariant-loop-listed l = is_some (mode_in (drop l.listed-index l.modes) l.mode.0) ≡ is_some (mode_in l.modes l.mode.0)
