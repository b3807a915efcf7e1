use Rattle.explain_form.proofs.FramesTold.{outside_inside}
use Rattle.explain_form.proofs.explanations.make_unassumed.Goals as goal

pub make_outside-requires : goal.make_outside-requires
make_outside-requires c = outside_inside c.args.spec.now c.args.script.now c.args.outside.now c.requires
