use Rattle.std.proofs.Common.{◌≡◌, ◌++◌, map, drop}
use Rattle.serde_json.specs.View.{view}
use Rattle.reconf_spec.specs.Texts.{on_data}
use Rattle.reconf_spec.proofs.demands.make_on.Given as goal

abbrev pub invariant-loop-app : goal.invariant-loop-app
invariant-loop-app l =
    map view l.values.items ++ on_data l.spec l.app (drop l.app l.on) ≡ on_data l.spec 0 l.on
