use Rattle.std.proofs.Common.{◌≡◌, ◌++◌, map, drop}
use Rattle.serde_json.specs.View.{view}
use Rattle.reconf_spec.specs.Texts.{names_data}
use Rattle.reconf_spec.proofs.table.make_names.Given as goal

abbrev pub invariant-loop-n : goal.invariant-loop-n
invariant-loop-n g l =
    map view l.values.items ++ names_data g.N.Naming.spelling l.set l.n (drop l.n l.items) ≡ names_data g.N.Naming.spelling l.set 0 l.items
