use Rattle.std.proofs.Common.{◌≡◌}
use Rattle.std.specs.Prelude.{Some, slice_get}
use Rattle.scram_types.proofs.Placed.{placed, read_within}
use Rattle.scram_types.proofs.specification.Spec.place_of.Goals as goal

pub returns-in-Some-clause-proc : goal.returns-in-Some-clause-proc
returns-in-Some-clause-proc c =
    let there : slice_get c.self.inside.confs c.args.c.0 ≡ Some c.in-Some.conf.now =
    rw (← c.items.ensures, ← c.from.ensures) (read_within c.items.result.now c.from.result c.in-Some.conf.now c.in-Some.ensures.lookup.0 c.in-Some.ensures.lookup.1) in
    rw (c.place.ensures) (placed _ c.self.invariant c.args.c.0 c.args.app.0 c.in-Some.conf.now there)
