use Rattle.std.proofs.Common.{◌∙◌, ap, arith}
use Rattle.std.specs.Prelude.{◌&&◌, ◌==◌}
use Rattle.scram_types.proofs.Naturals.{differ_test}
use Rattle.choice_table.specs.Environments.{factor_in}
use Rattle.cube_cover.specs.Cubes.{holds}
use Rattle.cube_cover.proofs.Closed.{digit_factor, none_holds}
use Rattle.cube_cover.proofs.cubes.with_wanted.Goals as goal

pub returns-then-want-lt6 : goal.returns-then-want-lt6
returns-then-want-lt6 c = λ v digits. c.with_digit.ensures v digits ∙ ap (λ n. holds c.args.cube v && (n == c.args.want.now.value)) (digit_factor v c.args.want.now.factor.0 c.if-want-lt6.true)

pub returns-else-want-eq0 : goal.returns-else-want-eq0
returns-else-want-eq0 c = λ v digits.
    let zero_value = digits.past c.args.want.now.factor.0 c.if-want-lt6.false in
    none_holds c.args.cube v _ (differ_test (factor_in v c.args.want.now.factor.0) c.args.want.now.value (λ e. c.if-want-eq0.false (omega arith)))
