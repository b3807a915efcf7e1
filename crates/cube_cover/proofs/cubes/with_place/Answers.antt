use Rattle.std.proofs.Common.{◌∙◌, ap, sym}
use Rattle.std.specs.Prelude.{◌&&◌}
use Rattle.scram_types.proofs.BitSets.{no_high_bit}
use Rattle.choice_table.specs.Choices.{is_place_up}
use Rattle.cube_cover.specs.Cubes.{holds}
use Rattle.cube_cover.proofs.Closed.{digit_up, none_holds}
use Rattle.cube_cover.proofs.cubes.with_place.Goals as goal

pub returns-then-place-lt8 : goal.returns-then-place-lt8
returns-then-place-lt8 c = λ v digits. c.with_digit.ensures v digits ∙ ap (λ b. holds c.args.cube v && b) (digit_up v c.in-Some.place.proc.0 ∙ sym (ap (is_place_up v) c.in-Some.is))

pub returns-else-place-lt8 : goal.returns-else-place-lt8
returns-else-place-lt8 c = λ v digits. none_holds c.args.cube v (is_place_up v c.args.place.now) (ap (is_place_up v) c.in-Some.is ∙ no_high_bit v.up c.in-Some.place.proc.0 digits.few c.if-place-lt8.false)
