use Rattle.std.proofs.Common.{◌≡◌, ◌≤◌, length}
use Rattle.spec_reading.specs.Needs.{with_ranks}
use Rattle.spec_reading.proofs.needs.set_ranks.Given as goal

abbrev pub invariant-loop-rank : goal.invariant-loop-rank
invariant-loop-rank l = (with_ranks l.apps l.ranks.items ≡ with_ranks l.fn.apps l.fn.ranks.items) × (length l.ranks.items ≤ length l.apps)

abbrev pub decreases-loop-rank : goal.decreases-loop-rank
decreases-loop-rank l = length l.ranks.items
