use Rattle.std.proofs.Common.{◌&&◌, not}
use Rattle.scram_types.specs.Searches.{all_below}
use Rattle.cube_cover.specs.Cubes.{Agree, Gain, allows, holds}
use Rattle.cube_cover.proofs.splits.cut.Given as goal

abbrev pub invariant-loop-x : goal.invariant-loop-x
invariant-loop-x l = record {
  rest : Agree l.spec (holds l.rest) (λ v. holds l.fn.cube v && all_below (allows l.by v) l.x);
  beyond : Gain l.spec l.initial.outside.items l.outside.items (λ v. holds l.fn.cube v && not (all_below (allows l.by v) l.x));
}
