use Rattle.std.proofs.Common.{subst}
use Rattle.std.proofs.lemmas.List.{take_all}
use Rattle.cube_cover.specs.Regions.{MarksMore}
use Rattle.cube_cover.proofs.Marking.{assigned_more, assigned_none}
use Rattle.cube_cover.proofs.regions.assign.Goals as goal

pub loop-cube-init : goal.loop-cube-init
loop-cube-init c = assigned_none c.args.regions.now.items c.args.target

pub loop-cube-preserved : goal.loop-cube-preserved
loop-cube-preserved c = assigned_more c.args.regions.now.items c.loop-cube.regions.items c.push.new.self.items c.args.cubes.now c.loop-cube.cube-index _ c.args.target c.loop-cube-test.true
    c.loop-cube.invariant c.in_ok-push.ensures.items

pub returns : goal.returns
returns c = subst (λ read. MarksMore c.args.regions.now.items c.loop-cube.regions.items read c.args.target)
    (take_all c.loop-cube.cube-index c.args.cubes.now c.loop-cube-test.false) c.loop-cube.invariant
