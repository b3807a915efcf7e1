use Rattle.scram_types.specs.Searches.{any_below}
use Rattle.cube_cover.specs.Covers.{IsLeastEnv, is_unfit}
use Rattle.cube_cover.specs.Findings.{is_left_at, is_stuck_at}
use Rattle.cube_cover.proofs.Targets.{HasTargetsBelow}
use Rattle.cube_cover.proofs.covers.cover.Given as goal

abbrev pub invariant-loop-t : goal.invariant-loop-t
invariant-loop-t l = record {
  targets : HasTargetsBelow l.spec l.i l.t l.cover.targets;
  unfit : IsLeastEnv l.spec (is_unfit l.spec l.i) l.cover.unfit;
  not_runnable : IsLeastEnv l.spec (λ v. any_below (λ t. is_stuck_at l.spec l.i t v) l.t) l.cover.not_runnable;
  unsettled : IsLeastEnv l.spec (λ v. any_below (λ t. is_left_at l.spec l.i t v) l.t) l.cover.unsettled;
}
