use Rattle.std.proofs.Common.{◌∙◌, ◌&&◌, ap, sym}
use Rattle.std.specs.Prelude.{not}
use Rattle.choice_table.specs.Choices.{choose}
use Rattle.choice_table.specs.Demands.{applies_in, is_met}
use Rattle.cube_cover.specs.Demands.{misses}
use Rattle.cube_cover.proofs.Missing.{missed}
use Rattle.cube_cover.proofs.Splitting.{digits_in_scope}
use Rattle.cube_cover.proofs.Unions.{least_same}
use Rattle.cube_cover.proofs.demands.least_miss.Goals as goal

pub returns-then-not-applies_from : goal.returns-then-not-applies_from
returns-then-not-applies_from c = λ v known scope.
    ap (λ b. b && applies_in c.args.demand.now v && not (is_met c.args.spec.now c.args.demand.now (choose c.args.spec.now c.args.i v))) (sym c.applies_from.ensures ∙ c.if-not-applies_from.true)

pub returns : goal.returns
returns c = least_same c.args.spec.now _ (misses c.args.spec.now c.args.demand.now c.args.i) c.least_outside.result
    (missed c.args.spec.now c.requires.known c.args.i c.args.demand.now c.args.regions.now c.demand_cube.result c.met_by.result c.requires.inside c.requires.regions
    (λ v scope. c.demand_cube.ensures v (digits_in_scope c.args.spec.now c.requires.known v scope)) c.met_by.ensures (sym c.applies_from.ensures ∙ c.if-not-applies_from.false))
    c.least_outside.ensures
