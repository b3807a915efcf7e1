use Rattle.std.proofs.Common.{◌∙◌, sym, ap, arith, length}
use Rattle.scram_types.proofs.Searches.{least_passes}
use Rattle.coverage_check.specs.Timing.{greatest_bound}
use Rattle.trace_props.specs.Judging.{breaks_after, breaks_calm, held_by}
use Rattle.trace_props.proofs.HeldSteps.{held_now, held_next}
use Rattle.trace_props.proofs.demanded.unsatisfied_at.Goals as goal

pub loop-frame-preserved : goal.loop-frame-preserved
loop-frame-preserved c =
    let now = c.held_by-since.ensures ∙ ap (held_by c.args.rows.now c.loop-frame.frame) c.loop-frame.invariant.held ∙ held_now c.args.rows.now c.loop-frame.frame in
    record {
      held = now ∙ held_next c.args.rows.now c.loop-frame.frame;
      judged =
          least_passes (breaks_calm c.args.spec.now c.args.rows.now) (length c.args.rows.now) c.loop-frame.frame (omega arith)
          (sym (c.breaks_after.ensures
          ∙ ap (λ n. breaks_after c.args.spec.now c.args.rows.now n c.loop-frame.frame c.held_by-since.result) c.greatest_bound-greatest.ensures
          ∙ ap (breaks_after c.args.spec.now c.args.rows.now (greatest_bound c.args.spec.now.bounds) c.loop-frame.frame) now) ∙ c.if-breaks_after.false)
          ∙ c.loop-frame.invariant.judged;
    }
