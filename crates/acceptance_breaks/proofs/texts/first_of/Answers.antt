use Rattle.std.proofs.Common.{◌∙◌, ap, take}
use Rattle.acceptance_breaks.specs.declared.texts.TheConstants.{MAX_BREAK_LINES}
use Rattle.acceptance_breaks.proofs.FirstItems.{take_few}
use Rattle.acceptance_breaks.proofs.texts.first_of.Goals as goal

pub returns : goal.returns
returns c = ap (λ n. take n c.args.found.now) c.min.ensures ∙ take_few c.args.found.now MAX_BREAK_LINES
