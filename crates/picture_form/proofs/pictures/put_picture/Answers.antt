use Rattle.std.proofs.Common.{subst}
use Rattle.scram_io.specs.Outside.{Prints}
use Rattle.picture_form.specs.Picture.{sheet_text}
use Rattle.picture_form.specs.declared.sheets.Sheet.{Sheet}
use Rattle.picture_form.proofs.pictures.put_picture.Goals as goal

pub returns : goal.returns
returns g c =
    subst (λ (sheet : Sheet). Prints c.put_sheet.result (g.K.Sink.state c.args.out.now) (g.K.Sink.state c.put_sheet.new.out) (sheet_text c.args.spec.now sheet c.args.rows.now c.args.reports.now))
    c.sheet_of.ensures.value c.put_sheet.ensures
