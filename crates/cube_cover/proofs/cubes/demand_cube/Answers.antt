use Rattle.std.proofs.Common.{◌∙◌, ap}
use Rattle.std.specs.Prelude.{◌&&◌}
use Rattle.std.specs.List.{list_all}
use Rattle.choice_table.specs.Choices.{all_up, has_wanted}
use Rattle.choice_table.specs.Demands.{all_down}
use Rattle.cube_cover.proofs.cubes.demand_cube.Goals as goal

pub returns : goal.returns
returns c = λ v digits.
    c.with_down.ensures v digits ∙ ap (λ b. b && all_down c.args.demand.now.down v) (c.with_up-up.ensures v digits
    ∙ ap (λ b. b && all_up c.args.demand.now.up v) (c.with_wants.ensures v digits ∙ ap (list_all (has_wanted v)) c.items.ensures))
