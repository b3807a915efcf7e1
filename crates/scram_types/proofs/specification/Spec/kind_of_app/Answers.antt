use Rattle.std.proofs.Common.{◌≡◌}
use Rattle.std.specs.Prelude.{Some, slice_get}
use Rattle.scram_types.proofs.Placed.{read_within}
use Rattle.scram_types.proofs.specification.Spec.kind_of_app.Goals as goal

pub returns-in-Some-clause-built : goal.returns-in-Some-clause-built
returns-in-Some-clause-built c =
    let here : slice_get c.items.result.now c.from.result ≡ Some c.in-Some.app.now =
    read_within c.items.result.now c.from.result c.in-Some.app.now c.in-Some.ensures.lookup.0 c.in-Some.ensures.lookup.1 in
    let app = c.self.invariant.apps c.from.result c.in-Some.app.now (rw (← c.items.ensures) here) in
    app.kind
