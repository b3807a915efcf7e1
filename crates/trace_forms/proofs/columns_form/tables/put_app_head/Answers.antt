use Rattle.std.proofs.Common.{◌≡◌}
use Rattle.std.specs.Prelude.{Some, slice_get}
use Rattle.scram_types.proofs.Placed.{read_within}
use Rattle.trace_forms.proofs.columns_form.tables.put_app_head.Goals as goal

pub returns-in-Some : goal.returns-in-Some
returns-in-Some g c =
    let there : slice_get c.args.spec.now.apps c.args.a ≡ Some c.in-Some.app.now =
    rw (← c.spec.view_is, ← c.items.ensures) (read_within c.items.result.now c.args.a c.in-Some.app.now c.in-Some.ensures.lookup.0 c.in-Some.ensures.lookup.1) in
    rw (there, ← c.make_app_head.ensures, ← c.as_bytes.ensures) c.put.ensures
