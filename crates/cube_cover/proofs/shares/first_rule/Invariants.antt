use Rattle.std.proofs.Common.{◌≡◌, ◌≤◌}
use Rattle.cube_cover.specs.Shares.{first_rule}
use Rattle.cube_cover.proofs.shares.first_rule.Given as goal

abbrev pub invariant-loop-rule : goal.invariant-loop-rule
invariant-loop-rule l = record {
  count : l.k ≡ l.rule-index;
  before : l.k ≤ first_rule l.spec.rules l.c l.env;
}
