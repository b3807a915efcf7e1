use Rattle.std.proofs.Common.{subst}
use Rattle.std.specs.Prelude.{◌==◌, not}
use Rattle.cube_cover.specs.Covers.{IsLeastEnv}
use Rattle.cube_cover.specs.Cubes.{is_in}
use Rattle.cube_cover.specs.Regions.{HoldsMarked}
use Rattle.cube_cover.proofs.Targets.{left_cubes}
use Rattle.cube_cover.proofs.Unions.{least_same}
use Rattle.cube_cover.proofs.covers.find_unsettled.Goals as goal

pub returns : goal.returns
returns c =
    let others = subst (λ rs. HoldsMarked rs (λ j. not (j == c.args.t)) c.in_ok-others.others.items) c.deref.ensures.value (λ v. c.in_ok-others.ensures v) in
    let least = subst (λ xs. IsLeastEnv c.args.spec.now (is_in xs) c.least_of.result) c.deref-2.ensures.value c.least_of.ensures in
    least_same c.args.spec.now (is_in c.in_ok-others.others.items) _ c.least_of.result
    (left_cubes c.args.spec.now c.args.i c.args.t c.args.cubes.items c.in_ok-others.others.items c.in_ok-found.found.unruled.items c.in_ok-found.found.ruled.items c.requires.chosen c.in_ok-found.ensures others) least
