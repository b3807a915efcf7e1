use Rattle.std.proofs.Common.{List, subst}
use Rattle.scram_types.specs.declared.rows.Report.{Report}
use Rattle.scram_types.specs.declared.rows.Row.{Row}
use Rattle.scram_io.specs.Outside.{Prints}
use Rattle.form_base.proofs.Endings.{answered_prints, found_ends, put_taken}
use Rattle.picture_form.specs.Picture.{picture_text}
use Rattle.picture_form.proofs.pictures.picture_form.Goals as goal

pub returns-in-Ok : goal.returns-in-Ok
returns-in-Ok g c =
    let spec = c.in-Ok.flight.spec in
    let old = g.K.Sink.state c.args.out.now in
    let new = g.K.Sink.state c.put_picture-put.new.out in
    let first = subst (λ (reports : List Report). Prints c.put_picture-put.result old new (picture_text spec c.items-rows.result.now reports)) c.items.ensures c.put_picture-put.ensures in
    let both = subst (λ (rows : List Row). Prints c.put_picture-put.result old new (picture_text spec rows c.in-Ok.flight.flown.reports)) c.items-rows.ensures first in
    rw (c.status_after.ensures)
    (found_ends _ _ _ _ _ _ _ _ (c.in-Ok.ensures.reads picture_text)
    (answered_prints (picture_text spec c.in-Ok.flight.flown.rows c.in-Ok.flight.flown.reports) _ _ _ (put_taken c.put_picture-put.result 0 _ _ _ both)))
