use Rattle.std.proofs.Common.{◌≡◌, drop}
use Rattle.scram_types.specs.Specification.{mode_in}
use Rattle.scram_types.proofs.specification.AppSpec.mode.Given as goal

abbrev pub invariant-loop-listed : goal.invariant-loop-listed
invariant-loop-listed l =
    mode_in (drop l.listed-index l.listed-items) l.mode.0 ≡ mode_in l.self.modes l.mode.0
