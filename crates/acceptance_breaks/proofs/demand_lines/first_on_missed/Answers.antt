use Rattle.std.proofs.Common.{◌∙◌, arith, length, sym}
use Rattle.scram_types.proofs.Searches.{least_passes}
use Rattle.acceptance_breaks.specs.Lines.{is_on_missed}
use Rattle.acceptance_breaks.proofs.demand_lines.first_on_missed.Goals as goal

pub loop-a-preserved : goal.loop-a-preserved
loop-a-preserved c =
    least_passes (is_on_missed c.args.spec.now c.args.demand.now c.args.c) (length c.args.spec.now.apps) c.loop-a.a
    (omega (arith, c.loop-a-test.true, c.count_apps-a-end.ensures.value)) (sym c.is_on_missed.ensures ∙ c.if-is_on_missed.false) ∙ c.loop-a.invariant
