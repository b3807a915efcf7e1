use Rattle.scram_io.proofs.Puts.{cut_more, prints_more}
use Rattle.picture_form.specs.Lanes.{name_line, spans_text}
use Rattle.picture_form.proofs.lanes.put_strip.Goals as goal

pub returns-in-Ok : goal.returns-in-Ok
returns-in-Ok g c =
    prints_more c.put_spans.result _ _ _ (name_line c.args.spec.now c.args.strip)
    (spans_text c.args.spec.now c.args.sheet c.args.rows.now c.args.strip) (rw (c.as_bytes.ensures, c.make_name_line.ensures) at c.in-Ok.ensures) c.put_spans.ensures

pub returns-in-Err : goal.returns-in-Err
returns-in-Err g c =
    cut_more _ _ (name_line c.args.spec.now c.args.strip)
    (spans_text c.args.spec.now c.args.sheet c.args.rows.now c.args.strip) (rw (c.as_bytes.ensures, c.make_name_line.ensures) at c.in-Err.ensures)
