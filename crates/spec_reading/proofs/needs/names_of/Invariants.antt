use Rattle.std.proofs.Common.{◌≡◌, ℕ, List, ◌++◌, map, drop}
use Rattle.std.specs.Prelude.{Some, option_map, slice_get}
use Rattle.scram_types.specs.declared.ids.AppId.{AppId}
use Rattle.spec_reading.specs.Names.{name_of_app}
use Rattle.spec_reading.proofs.needs.names_of.Given as goal

abbrev pub invariant-loop-app : goal.invariant-loop-app
invariant-loop-app l =
    map (λ (name : List ℕ). Some name) l.names.items ++ map (λ (a : AppId). option_map name_of_app (slice_get l.apps a.0)) (drop l.app-index l.listed)
    ≡ map (λ (a : AppId). option_map name_of_app (slice_get l.apps a.0)) l.listed
