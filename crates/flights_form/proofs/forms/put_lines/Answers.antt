use Rattle.std.proofs.Common.{◌≤◌, ap, arith, subst, sym}
use Rattle.scram_io.proofs.Puts.{printed_none}
use Rattle.flights_form.specs.declared.totals.Totals.{Totals}
use Rattle.flights_form.proofs.Flown.{flown_cut, flown_next, flown_none}
use Rattle.flights_form.proofs.Summed.{few_refused}
use Rattle.flights_form.proofs.forms.put_lines.Goals as goal

pub loop-line-init : goal.loop-line-init
loop-line-init g c = record {
  flown = rw (c.new-totals.ensures) (flown_none c.args.spec.now c.args.bytes.now _ _ (printed_none (g.K.Sink.state c.args.out.now) (g.met.K.Sink.surely_below c.args.out.now)));
  lines = let none = ap (λ (t : Totals). t.lines) c.new-totals.ensures in omega (arith, none);
}

pub put_line-requires-clause-lines : goal.put_line-requires-clause-lines
put_line-requires-clause-lines g c = omega (arith, c.loop-line.invariant.lines, c.in-Some.ensures.shorter, c.requires)

pub put_line-requires-clause-refused : goal.put_line-requires-clause-refused
put_line-requires-clause-refused g c =
    let flown = c.loop-line.invariant.flown in
    subst (λ (t : Totals). t.refused ≤ t.lines) (sym flown.totals_are) (few_refused flown.outcomes)

pub loop-line-preserved : goal.loop-line-preserved
loop-line-preserved g c =
    let line = c.in-Ok.ensures in
    record {
      flown = rw (line.prints.0)
          (flown_next c.args.spec.now c.args.bytes.now c.loop-line.rest.now c.in-Some.line.now c.in-Some.behind.now c.loop-line.totals line.outcome _ _ _
          c.loop-line.invariant.flown c.in-Some.ensures.lines line.comes line.prints.1);
      lines = let more = ap (λ (t : Totals). t.lines) line.prints.0 in omega (arith, more, c.in-Some.ensures.shorter, c.loop-line.invariant.lines);
    }

pub returns-in-Err : goal.returns-in-Err
returns-in-Err g c =
    flown_cut c.args.spec.now c.args.bytes.now c.loop-line.rest.now c.in-Some.line.now c.in-Some.behind.now c.loop-line.totals c.in-Err.ensures.outcome c.in-Err.fault _ _ _
    c.loop-line.invariant.flown c.in-Some.ensures.lines c.in-Err.ensures.comes c.in-Err.ensures.prints
