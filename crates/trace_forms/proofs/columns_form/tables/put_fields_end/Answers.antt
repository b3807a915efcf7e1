use Rattle.std.proofs.Common.{length, codes}
use Rattle.scram_io.proofs.Puts.{cut_more, prints_more}
use Rattle.form_base.specs.Texts.{texts_below}
use Rattle.trace_forms.specs.columns_form.Table.{app_fields_text}
use Rattle.trace_forms.proofs.columns_form.tables.put_fields_end.Goals as goal

pub returns-in-Ok : goal.returns-in-Ok
returns-in-Ok g c =
    prints_more c.put.result _ _ _ (texts_below (app_fields_text c.args.spec.now c.args.row.now) (length c.args.spec.now.apps))
    (codes "\n") c.in-Ok.ensures c.put.ensures

pub returns-in-Err : goal.returns-in-Err
returns-in-Err g c =
    cut_more _ _ (texts_below (app_fields_text c.args.spec.now c.args.row.now) (length c.args.spec.now.apps))
    (codes "\n") c.in-Err.ensures
