use Rattle.std.proofs.Common.{◌∙◌, ◌+◌, sym, arith}
use Rattle.scram_types.proofs.Searches.{least_passes}
use Rattle.trace_props.specs.Judging.{chooses}
use Rattle.trace_props.proofs.targets.first_choice.Goals as goal

pub loop-frame-preserved : goal.loop-frame-preserved
loop-frame-preserved c =
    least_passes (chooses c.args.spec.now c.args.rows.now c.args.read.from c.args.to) (c.args.read.end + 1) c.loop-frame.frame (omega arith) (sym c.chooses.ensures ∙ c.if-chooses.false)
    ∙ c.loop-frame.invariant
