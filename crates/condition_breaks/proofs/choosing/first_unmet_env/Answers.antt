use Rattle.std.proofs.Common.{◌∙◌}
use Rattle.coverage_check.proofs.Reaching.{cover_unmet}
use Rattle.condition_breaks.proofs.choosing.first_unmet_env.Goals as goal

pub returns : goal.returns
returns c = c.unmet_of_cover.ensures ∙ cover_unmet c.args.spec.now c.count_confs-known.ensures.known c.args.asked c.args.c c.in_ok-found.found c.in_ok-found.ensures
