use Rattle.std.proofs.Common.{sym, subst}
use Rattle.scram_types.specs.Specification.{Each}
use Rattle.acceptance_breaks.specs.declared.texts.TheConstants.{MAX_BREAK_LINES}
use Rattle.condition_breaks.specs.Shown.{AnyEnvIsOf}
use Rattle.condition_breaks.proofs.EachItem.{each_first}
use Rattle.acceptance_breaks.proofs.texts.make_text.Goals as goal

pub add_lines-requires-clause-shown : goal.add_lines-requires-clause-shown
add_lines-requires-clause-shown c =
    subst (λ found. Each (AnyEnvIsOf c.args.spec.now) found) (sym c.first_of.ensures) (each_first (AnyEnvIsOf c.args.spec.now) MAX_BREAK_LINES c.args.found.now c.requires.shown)
