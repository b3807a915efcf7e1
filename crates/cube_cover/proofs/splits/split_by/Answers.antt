use Rattle.std.proofs.Common.{◌∙◌, subst, sym, take}
use Rattle.std.specs.Prelude.{not}
use Rattle.std.proofs.lemmas.List.{take_all}
use Rattle.cube_cover.specs.Cubes.{IsSplit, holders, holds}
use Rattle.cube_cover.proofs.Splitting.{none_split, outside_test, parts_more}
use Rattle.cube_cover.proofs.splits.split_by.Goals as goal

pub loop-cube-init : goal.loop-cube-init
loop-cube-init c = none_split c.args.spec.now c.args.by _ _ c.new-inside.ensures.items c.new-outside.ensures.items

pub loop-cube-preserved : goal.loop-cube-preserved
loop-cube-preserved c = record {
  within = parts_more c.args.spec.now c.args.cubes.now c.loop-cube.cube-index _ (holds c.args.by) c.loop-cube.inside.items c.split_cube.new.inside.items c.loop-cube-test.true
      c.loop-cube.invariant.within (λ v scope. c.in_ok-split_cube.ensures.within v scope);
  beyond = λ v scope.
      parts_more c.args.spec.now c.args.cubes.now c.loop-cube.cube-index _ (λ v. not (holds c.args.by v)) c.loop-cube.outside.items c.split_cube.new.outside.items c.loop-cube-test.true
      (λ w known. c.loop-cube.invariant.beyond w known ∙ sym (outside_test (holders (take c.loop-cube.cube-index c.args.cubes.now) w) (holds c.args.by w)))
      (λ w known. c.in_ok-split_cube.ensures.beyond w known) v scope
      ∙ outside_test _ (holds c.args.by v);
}

pub returns : goal.returns
returns c = subst (λ read. IsSplit c.args.spec.now read c.args.by c.loop-cube.inside.items c.loop-cube.outside.items)
    (take_all c.loop-cube.cube-index c.args.cubes.now c.loop-cube-test.false) c.loop-cube.invariant
