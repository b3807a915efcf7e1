use Rattle.std.proofs.Common.{◌∙◌, sym}
use Rattle.scram_types.specs.Bits.{has_bit}
use Rattle.cube_cover.specs.Cubes.{holds}
use Rattle.cube_cover.specs.Demands.{is_outside}
use Rattle.cube_cover.proofs.Missing.{both_outside, in_set, not_both}
use Rattle.cube_cover.proofs.Splitting.{digits_in_scope, not_met}
use Rattle.cube_cover.proofs.Unions.{least_same}
use Rattle.cube_cover.proofs.demands.least_in.Goals as goal

pub returns-then-is_in : goal.returns-then-is_in
returns-then-is_in c = λ v known scope. in_set (has_bit c.args.met c.args.region.now.target.0) c.is_in.result (holds c.args.region.now.cube v) (holds c.args.by v) (sym c.is_in.ensures) c.if-is_in.true

pub returns-then-not-meet : goal.returns-then-not-meet
returns-then-not-meet c = λ v known scope.
    not_both (is_outside c.args.met c.args.region.now.target.0) (holds c.args.region.now.cube v) (holds c.args.by v)
    (not_met c.args.region.now.cube c.args.by v c.meet.result c.if-not-meet.true
    (c.meet.ensures v (digits_in_scope c.args.spec.now c.requires v (record { belongs = known; scope = scope }))))

pub returns : goal.returns
returns c = least_same c.args.spec.now (holds c.both.result) _ c.least_env.result
    (λ v scope. c.both.ensures v
    ∙ both_outside (has_bit c.args.met c.args.region.now.target.0) c.is_in.result (holds c.args.region.now.cube v) (holds c.args.by v) (sym c.is_in.ensures) c.if-is_in.false)
    c.least_env.ensures
