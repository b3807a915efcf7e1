use Rattle.std.proofs.Common.{◌≡◌, ◌≤◌, length}
use Rattle.spec_reading.specs.Needs.{with_needs}
use Rattle.spec_reading.proofs.needs.set_needs.Given as goal

abbrev pub invariant-loop-named : goal.invariant-loop-named
invariant-loop-named l = (with_needs l.apps l.needs.items ≡ with_needs l.fn.apps l.fn.needs.items) × (length l.needs.items ≤ length l.apps)

abbrev pub decreases-loop-named : goal.decreases-loop-named
decreases-loop-named l = length l.needs.items
