use Rattle.std.proofs.Common.{arith}
use Rattle.form_base.proofs.TextsBelow.{cut_below, printed_next}
use Rattle.picture_form.specs.Picture.{tick_text}
use Rattle.picture_form.specs.Sheets.{ticks_of}
use Rattle.picture_form.proofs.pictures.put_ticks.Goals as goal

pub returns-in-Err : goal.returns-in-Err
returns-in-Err g c =
    cut_below (tick_text c.args.sheet) c.loop-j.j (ticks_of c.args.sheet) _ _ _ (omega (arith, c.loop-j-test.true, c.ticks-j-end.ensures)) c.loop-j.invariant (rw (c.as_bytes.ensures, c.make_tick.ensures) at c.in-Err.ensures)

pub loop-j-preserved : goal.loop-j-preserved
loop-j-preserved g c = printed_next (tick_text c.args.sheet) c.loop-j.j _ _ _ c.loop-j.invariant (rw (c.as_bytes.ensures, c.make_tick.ensures) at c.in-Ok.ensures)
