use Rattle.std.proofs.Common.{◌≡◌, ◌<◌, ◌-◌, ◌++◌, drop, length, take}
use Rattle.std.specs.Prelude.{replicate}
use Rattle.choice_table.specs.Numbering.{combinations, values_of}
use Rattle.choice_table.proofs.numbering.values_numbered.Given as goal

abbrev pub invariant-loop-x : goal.invariant-loop-x
invariant-loop-x l = record {
  place : l.place ≡ combinations (drop l.x l.spec.factors);
  rest : l.rest < l.place;
  spelled : take l.x l.values ++ values_of (drop l.x l.spec.factors) l.rest ≡ values_of l.spec.factors l.fn.number;
  width : length l.values ≡ 6;
  zeros : drop l.x l.values ≡ replicate (6 - l.x) 0;
}
