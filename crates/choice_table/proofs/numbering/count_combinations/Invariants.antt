use Rattle.std.proofs.Common.{◌≡◌, ◌*◌, drop}
use Rattle.choice_table.specs.Numbering.{combinations}
use Rattle.choice_table.proofs.numbering.count_combinations.Given as goal

abbrev pub invariant-loop-x : goal.invariant-loop-x
invariant-loop-x l = l.product * combinations (drop l.x l.spec.factors) ≡ combinations l.spec.factors
