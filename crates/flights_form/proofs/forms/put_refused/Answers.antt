use Rattle.scram_io.proofs.Puts.{cut_more, prints_more}
use Rattle.flights_form.specs.Lines.{refused_start}
use Rattle.flights_form.proofs.forms.put_refused.Goals as goal

pub returns-in-Ok : goal.returns-in-Ok
returns-in-Ok g c =
    prints_more c.put-in-Ok.result _ _ _ (refused_start c.args.k) c.args.line.now (rw (c.as_bytes.ensures, c.make_refused_start.ensures) at c.in-Ok.ensures)
    (rw (c.as_bytes-in-Ok.ensures) at c.put-in-Ok.ensures)

pub returns-in-Err : goal.returns-in-Err
returns-in-Err g c = cut_more _ _ (refused_start c.args.k) c.args.line.now (rw (c.as_bytes.ensures, c.make_refused_start.ensures) at c.in-Err.ensures)
