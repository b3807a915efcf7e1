use Rattle.std.proofs.Common.{◌∙◌, sym}
use Rattle.cube_cover.proofs.Closed.{holds_none}
use Rattle.cube_cover.proofs.Marking.{other_source}
use Rattle.cube_cover.proofs.shares.fitting_cube.Goals as goal

pub returns-else-has_source : goal.returns-else-has_source
returns-else-has_source c = λ v digits. holds_none v ∙ sym (other_source c.args.c v c.args.rule.now (sym c.has_source.ensures ∙ c.if-has_source.false))
