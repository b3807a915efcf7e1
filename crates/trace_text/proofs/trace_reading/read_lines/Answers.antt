use Rattle.std.proofs.Common.{◌∙◌, arith, sym}
use Rattle.trace_text.proofs.Walk.{of_length, taken, not_taken}
use Rattle.trace_text.proofs.trace_reading.read_lines.Goals as goal

pub returns-in-Err : goal.returns-in-Err
returns-in-Err c =
    rw c.stopped_at.ensures
    (not_taken c.args.spec.now c.loop-text.line c.loop-text.progress c.in-Some.text.now c.loop-text.rest.now c.in-Some.behind.now c.args.bytes.now c.in-Err.stop
    c.in-Some.ensures.pieces c.in-Err.ensures
    (c.loop-text.invariant.rest ∙ sym (of_length c.args.spec.now c.args.bytes.now (omega arith))))

pub loop-text-preserved : goal.loop-text-preserved
loop-text-preserved c = record {
  rest = taken c.args.spec.now c.loop-text.line c.loop-text.progress c.in-Ok.next c.in-Some.text.now c.loop-text.rest.now c.in-Some.behind.now _
      c.in-Some.ensures.pieces c.in-Ok.ensures c.loop-text.invariant.rest;
  place = omega (arith, c.in-Some.ensures.shorter, c.loop-text.invariant.place);
}
