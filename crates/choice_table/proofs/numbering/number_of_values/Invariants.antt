use Rattle.std.proofs.Common.{◌≡◌, ◌+◌, ◌*◌, ◌^◌, ◌≤◌, drop}
use Rattle.choice_table.specs.Numbering.{combinations, digits_of}
use Rattle.choice_table.proofs.numbering.number_of_values.Given as goal

abbrev pub invariant-loop-x : goal.invariant-loop-x
invariant-loop-x l = record {
  so_far : l.number * combinations (drop l.x l.spec.factors) + digits_of (drop l.x l.spec.factors) (drop l.x l.values) ≡ digits_of l.spec.factors l.values;
  few : l.number + 85 ≤ 85 * 4 ^ l.x;
}
