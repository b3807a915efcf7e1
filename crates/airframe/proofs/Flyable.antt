-- Every number of the world after a step lies in its range.
use Rattle.scram_types.specs.Ranges.{limit}
use Rattle.scram_types.proofs.Clamping.{in_circle, in_clamp}
use Rattle.airframe.specs.Motion.{climb_after, bank_after, alt_after, heading_after, world_after, IsFlyable}
use Rattle.airframe.specs.declared.motion.Motion.{Motion}

pub flyable : (m : Motion) → IsFlyable (world_after m)
unfolding world_after climb_after bank_after alt_after heading_after
flyable m =
    let alt = in_clamp (limit 0 40000) _ in
    let climb = in_clamp (limit 300 300) _ in
    let heading = in_circle _ in
    let bank = in_clamp (limit 300 300) _ in
    record {
      lowest = alt.least;
      highest = alt.greatest;
      steepest_down = climb.least;
      steepest_up = climb.greatest;
      first = heading.least;
      last = heading.greatest;
      left = bank.least;
      right = bank.greatest;
    }
