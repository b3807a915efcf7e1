use Rattle.std.proofs.Common.{codes, ◌∙◌}
use Rattle.scram_types.specs.Lookups.{conf_name}
use Rattle.trace_text.specs.Names.{conf_or_dash}
use Rattle.picture_form.specs.Reconfigurations.{route_text}
use Rattle.picture_form.proofs.Routes.{route_added}
use Rattle.picture_form.proofs.reconfigurations.add_route.Goals as goal

pub returns-clause-text : goal.returns-clause-text
unfolding route_text
returns-clause-text c =
    route_added c.args.line.now c.text.new.self c.text-2.new.self c.text-3.new.self c.add_conf_or_dash.new.line (codes "reconfiguration ") (conf_name c.args.spec.now c.args.from.0)
    c.as_bytes.result.now (codes " &gt; ") (conf_or_dash c.args.spec.now c.args.to) c.text.ensures.text (c.as_bytes.ensures.value ∙ c.conf_name.ensures.name)
    c.text-2.ensures.text c.text-3.ensures.text c.add_conf_or_dash.ensures.text
