use Rattle.std.proofs.Common.{◌≡◌, ◌*◌}
use Rattle.scram_types.specs.Bits.{count_below}
use Rattle.choice_table.specs.Numbering.{is_down_in_scope}
use Rattle.choice_table.proofs.numbering.states.Given as goal

abbrev pub invariant-loop-down : goal.invariant-loop-down
invariant-loop-down l = l.states ≡ count_below (is_down_in_scope l.spec) l.down * l.combinations
