use Rattle.std.proofs.Common.{◌∙◌, sym, ap, arith, length}
use Rattle.scram_types.specs.Specification.{Parts}
use Rattle.scram_types.specs.Lookups.{conf_id}
use Rattle.scram_types.proofs.Searches.{least_passes}
use Rattle.frame_model.specs.Runs.{runs}
use Rattle.frame_model.proofs.acts.running.Goals as goal

pub loop-c-preserved : goal.loop-c-preserved
loop-c-preserved c =
    let count = ap length c.items.ensures in
    let whole = ap (λ (s : Parts). length s.confs) c.spec.view_is in
    least_passes (λ j. runs c.args.spec.now c.args.acts.now (conf_id j)) (length c.args.spec.now.confs) c.loop-c.c (omega arith) (sym c.runs.ensures ∙ c.if-runs.false)
    ∙ c.loop-c.invariant
