use Rattle.cube_cover.proofs.Targets.{all_chosen}
use Rattle.cube_cover.proofs.demands.chosen_regions.Goals as goal

pub returns : goal.returns
returns c = all_chosen c.args.spec.now c.args.i c.in_ok-all_cubes.field-0.items c.in_ok-found.found.unruled.items c.in_ok-found.found.ruled.items c.in_ok-regions.regions.items
    (λ v scope. c.in_ok-all_cubes.ensures.all v scope) c.in_ok-found.ensures (λ passes v. c.in_ok-regions.ensures passes v)
