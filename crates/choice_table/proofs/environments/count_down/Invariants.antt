use Rattle.std.proofs.Common.{◌≡◌, ◌≤◌, not}
use Rattle.scram_types.specs.Bits.{count_below, has_bit}
use Rattle.choice_table.proofs.environments.count_down.Given as goal

abbrev pub invariant-loop-p : goal.invariant-loop-p
invariant-loop-p l = record {
  counted : l.down ≡ count_below (λ p. not (has_bit l.up p)) l.p;
  most : l.down ≤ l.p;
}
