use Rattle.std.proofs.Common.{◌≡◌, ℕ, ◌*◌, ◌<◌, ◌≤◌, false}
use Rattle.choice_table.specs.Numbering.{is_number_in_scope}
use Rattle.choice_table.proofs.numbering.next_in_scope.Given as goal

abbrev pub invariant-loop-down : goal.invariant-loop-down
invariant-loop-down l = (k : ℕ) → l.low ≤ k → k < l.down * l.combinations → is_number_in_scope l.spec k ≡ false
