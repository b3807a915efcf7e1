use Rattle.std.proofs.Common.{◌≡◌, ◌∙◌, ◌&&◌, ap, arith, length, subst, sym, take}
use Rattle.std.proofs.Math.Seq.{take-length}
use Rattle.cube_cover.specs.Covers.{IsLeastEnv}
use Rattle.cube_cover.specs.Cubes.{holds}
use Rattle.cube_cover.specs.Demands.{is_outside}
use Rattle.cube_cover.specs.Regions.{is_marked}
use Rattle.cube_cover.proofs.Marking.{marks_none}
use Rattle.cube_cover.proofs.Missing.{marked_more}
use Rattle.cube_cover.proofs.Unions.{least_either, least_same}
use Rattle.cube_cover.proofs.demands.least_outside.Goals as goal

pub loop-region-init : goal.loop-region-init
loop-region-init c = λ v known scope. ap (λ b. b && holds c.args.by v) (marks_none (is_outside c.args.met) v)

pub loop-region-preserved : goal.loop-region-preserved
loop-region-preserved c =
    least_same c.args.spec.now _ _ c.earlier_env-least.result
    (λ v scope. marked_more c.args.regions.now c.args.by (is_outside c.args.met) c.loop-region.region-index _ v c.loop-region-test.true)
    (subst (IsLeastEnv c.args.spec.now _) (sym c.earlier_env-least.ensures)
    (least_either c.args.spec.now _ _ c.loop-region.least c.least_in.result c.loop-region.invariant c.least_in.ensures))

pub returns : goal.returns
returns c =
    let end : c.loop-region.region-index ≡ length c.args.regions.now = omega arith in
    subst (λ rs. IsLeastEnv c.args.spec.now (λ v. is_marked rs (is_outside c.args.met) v && holds c.args.by v) c.loop-region.least)
    (ap (λ n. take n c.args.regions.now) end ∙ take-length c.args.regions.now) c.loop-region.invariant
