use Rattle.scram_types.proofs.Placed.{read_within}
use Rattle.trace_forms.proofs.columns_form.tables.put_row.Goals as goal

pub returns-in-Some : goal.returns-in-Some
returns-in-Some g c =
    rw (read_within c.args.rows.now c.args.k c.in-Some.row.now c.in-Some.ensures.lookup.0 c.in-Some.ensures.lookup.1) c.put_fields.ensures
