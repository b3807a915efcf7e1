use Rattle.std.proofs.Common.{◌≡◌, drop}
use Rattle.trace_text.specs.Lookups.{mode_from}
use Rattle.trace_text.proofs.lookups.find_listed.Given as goal

abbrev pub invariant-loop-listed : goal.invariant-loop-listed
invariant-loop-listed l = mode_from l.kind.0 l.text (drop l.listed-index l.modes) ≡ mode_from l.kind.0 l.text l.modes
