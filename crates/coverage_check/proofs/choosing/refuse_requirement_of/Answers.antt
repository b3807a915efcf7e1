use Rattle.std.proofs.Common.{◌≡◌, Some, None, sym, ap, ◌∙◌}
use Rattle.std.specs.Prelude.{option_map}
use Rattle.scram_types.specs.declared.rows.Env.{Env}
use Rattle.scram_types.specs.Lookups.{conf_id}
use Rattle.coverage_check.specs.Choosing.{first_unmet_env, number_of_requirement, target_shown}
use Rattle.coverage_check.specs.Showing.{shown_in}
use Rattle.coverage_check.proofs.Reaching.{cover_unmet}
use Rattle.coverage_check.proofs.choosing.refuse_requirement_of.Goals as goal

pub returns-in-Some : goal.returns-in-Some
returns-in-Some c =
    let first : Some c.in-Some.env ≡ first_unmet_env c.args.spec.now c.args.requirement (conf_id c.args.c) =
    sym c.in-Some.is ∙ c.unmet_of_cover.ensures ∙ cover_unmet c.args.spec.now c.requires.known c.args.requirement (conf_id c.args.c) c.args.cover.now c.requires.cover in
    rw (c.within.ensures, c.number_of.ensures, c.target_shown-target.ensures)
    (ap (option_map (λ (v : Env). shown_in (number_of_requirement c.args.requirement) c.args.c v (target_shown c.args.spec.now c.args.requirement (conf_id c.args.c) v))) first)

pub returns-in-None : goal.returns-in-None
returns-in-None c =
    let first : None ≡ first_unmet_env c.args.spec.now c.args.requirement (conf_id c.args.c) =
    sym c.in-None.is ∙ c.unmet_of_cover.ensures ∙ cover_unmet c.args.spec.now c.requires.known c.args.requirement (conf_id c.args.c) c.args.cover.now c.requires.cover in
    ap (option_map (λ (v : Env). shown_in (number_of_requirement c.args.requirement) c.args.c v (target_shown c.args.spec.now c.args.requirement (conf_id c.args.c) v))) first
