use Rattle.std.proofs.Common.{◌≡◌, ◌++◌, map, drop}
use Rattle.serde_json.specs.View.{view}
use Rattle.reconf_spec.specs.Texts.{places_data}
use Rattle.reconf_spec.proofs.items.make_places.Given as goal

abbrev pub invariant-loop-app : goal.invariant-loop-app
invariant-loop-app l =
    map view l.values.items ++ places_data l.spec l.app (drop l.app l.places) ≡ places_data l.spec 0 l.places
