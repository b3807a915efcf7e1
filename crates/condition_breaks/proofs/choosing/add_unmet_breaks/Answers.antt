use Rattle.std.proofs.Common.{◌∙◌, ap}
use Rattle.std.specs.Prelude.{option_map}
use Rattle.std.specs.Option.{option_to_list}
use Rattle.scram_types.specs.Lookups.{conf_id}
use Rattle.scram_types.specs.declared.rows.Env.{Env}
use Rattle.condition_breaks.specs.declared.breaks.Break.TheVariants as broken
use Rattle.condition_breaks.specs.Breaks.{unmet_break}
use Rattle.condition_breaks.proofs.Gathering.{gathered_next}
use Rattle.condition_breaks.proofs.choosing.add_unmet_breaks.Goals as goal

pub loop-c-preserved : goal.loop-c-preserved
loop-c-preserved c =
    gathered_next (unmet_break c.args.spec.now c.args.asked) c.loop-c.c c.args.breaks.now.items c.loop-c.breaks.items c.push_found.new.breaks.items (option_to_list c.unmet_in.result)
    c.loop-c.invariant c.in_ok-push_found.ensures
    (ap option_to_list (c.unmet_in.ensures ∙ ap (option_map (λ (v : Env). broken.Unmet c.args.asked (conf_id c.loop-c.c) v)) c.in_ok-unmet.ensures))
