use Rattle.std.proofs.Common.{arith}
use Rattle.flights_form.proofs.Gaps.{gap_before}
use Rattle.flights_form.proofs.facts.greatest_gap.Goals as goal

pub loop-a-preserved : goal.loop-a-preserved
loop-a-preserved c = record {
  greatest = gap_before c.args.rows.now c.loop-a.a c.args.spec.now.apps c.loop-a.greatest _ (omega (arith, c.loop-a-test.true)) c.loop-a.invariant.most c.loop-a.invariant.greatest
      (rw (c.gap_of_app.ensures) at c.greater_gap-greatest.ensures);
  most = omega (arith, c.loop-a.invariant.most);
}
