use Rattle.std.proofs.Common.{subst}
use Rattle.std.specs.Prelude.{◌==◌}
use Rattle.std.proofs.lemmas.List.{take_all}
use Rattle.cube_cover.specs.Regions.{HoldsMarked}
use Rattle.cube_cover.proofs.Marking.{picked_more, picked_none}
use Rattle.cube_cover.proofs.regions.with_target.Goals as goal

pub loop-region-init : goal.loop-region-init
loop-region-init c = picked_none (λ j. j == c.args.t) _ c.new-cubes.ensures.items

pub loop-region-preserved : goal.loop-region-preserved
loop-region-preserved c = picked_more c.args.regions.now c.loop-region.region-index _ (λ j. j == c.args.t) c.loop-region.cubes.items c.push_where.new.cubes.items c.loop-region-test.true
    c.loop-region.invariant (λ v. c.in_ok-push_where.ensures v)

pub returns : goal.returns
returns c = subst (λ read. HoldsMarked read (λ j. j == c.args.t) c.loop-region.cubes.items)
    (take_all c.loop-region.region-index c.args.regions.now c.loop-region-test.false) c.loop-region.invariant
