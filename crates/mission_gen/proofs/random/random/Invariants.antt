use Rattle.std.proofs.Common.{◌≡◌}
use Rattle.mission_gen.specs.Blocks.{random}
use Rattle.mission_gen.proofs.random.random.Given as goal

abbrev pub invariant-loop : goal.invariant-loop
invariant-loop l = l.x ≡ random l.n l.counter
