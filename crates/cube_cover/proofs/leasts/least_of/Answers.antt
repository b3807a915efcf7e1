use Rattle.std.proofs.Common.{◌≡◌, ◌∙◌, ◌+◌, ap, arith, length, subst, sym, take}
use Rattle.std.proofs.Math.Seq.{take-length}
use Rattle.cube_cover.specs.Covers.{IsLeastEnv}
use Rattle.cube_cover.specs.Cubes.{is_in}
use Rattle.cube_cover.proofs.Unions.{in_none, least_either, least_same, taken_more}
use Rattle.cube_cover.proofs.leasts.least_of.Goals as goal

pub loop-cube-init : goal.loop-cube-init
loop-cube-init c = λ v known scope. in_none v

pub loop-cube-preserved : goal.loop-cube-preserved
loop-cube-preserved c =
    least_same c.args.spec.now _ (is_in (take (c.loop-cube.cube-index + 1) c.args.cubes.now)) c.earlier_env-least.result
    (λ v scope. sym (taken_more c.args.cubes.now c.loop-cube.cube-index _ v c.loop-cube-test.true))
    (subst (IsLeastEnv c.args.spec.now _) (sym c.earlier_env-least.ensures)
    (least_either c.args.spec.now (is_in (take c.loop-cube.cube-index c.args.cubes.now)) _ c.loop-cube.least c.least_env.result c.loop-cube.invariant c.least_env.ensures))

pub returns : goal.returns
returns c =
    let end : c.loop-cube.cube-index ≡ length c.args.cubes.now = omega arith in
    subst (λ xs. IsLeastEnv c.args.spec.now (is_in xs) c.loop-cube.least) (ap (λ n. take n c.args.cubes.now) end ∙ take-length c.args.cubes.now) c.loop-cube.invariant
