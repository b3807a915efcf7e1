use Rattle.std.proofs.Common.{◌∙◌, sym, subst}
use Rattle.scram_types.specs.Specification.{Each}
use Rattle.condition_breaks.specs.Shown.{AnyEnvIsOf}
use Rattle.condition_breaks.proofs.ShownIn.{all_shown}
use Rattle.acceptance_breaks.proofs.texts.make_breaks.Goals as goal

pub make_text-requires-clause-shown : goal.make_text-requires-clause-shown
make_text-requires-clause-shown c =
    subst (λ found. Each (AnyEnvIsOf c.args.spec.now) found) (sym (c.deref.ensures.value ∙ c.in_ok-found.ensures)) (all_shown c.args.spec.now c.count_confs-known.ensures.known c.args.condition)
