use Rattle.std.proofs.Common.{◌≡◌}
use Rattle.std.specs.Prelude.{Some, slice_get}
use Rattle.scram_types.proofs.Placed.{read_within}
use Rattle.idle_parts.proofs.texts.add_demand_at.Goals as goal

pub add_demand-requires : goal.add_demand-requires
add_demand-requires c =
    let there : slice_get c.spec.inside.demands c.args.k ≡ Some c.in-Some.demand.now =
    rw (← c.items.ensures, ← c.from.ensures) (read_within c.items.result.now c.from.result c.in-Some.demand.now c.in-Some.ensures.lookup.0 c.in-Some.ensures.lookup.1) in
    rw (← c.spec.view_is) (c.spec.invariant.demands c.args.k c.in-Some.demand.now there)
