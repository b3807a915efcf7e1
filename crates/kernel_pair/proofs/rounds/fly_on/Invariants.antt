use Rattle.std.proofs.Common.{◌≡◌}
use Rattle.kernel_pair.specs.Rounds.{left_in}
use Rattle.kernel_pair.proofs.rounds.fly_on.Given as goal

abbrev pub invariant-rounds : goal.invariant-rounds
invariant-rounds g l = record {
  spec : l.core.spec ≡ l.fn.core.spec;
  script : l.core.script ≡ l.fn.core.script;
}

abbrev pub decreases-rounds : goal.decreases-rounds
decreases-rounds g l = left_in l.core
