use Rattle.std.proofs.Common.{◌<◌, ℕ}
use Rattle.scram_types.specs.declared.ids.ProcId.{ProcId}
use Rattle.kernel_pair.specs.Machines.{pair_flight, pair_in}
use Rattle.kernel_pair.specs.Pairs.{IsPairNext}
use Rattle.kernel_pair.specs.Rounds.{IsFlownOn}
use Rattle.kernel_pair.specs.declared.events.PairEvent.TheVariants.{Fly}
use Rattle.kernel_pair.proofs.rounds.fly_round.Given as goal

abbrev pub invariant-loop-p : goal.invariant-loop-p
invariant-loop-p g l = IsFlownOn l.initial.core l.core ((q : ProcId) (u : ℕ) → q.0 < l.p → u < 2 → IsPairNext (pair_flight l.initial.core) l.initial.core.halt (pair_in l.initial.core) (Fly q u) → ⊥)
