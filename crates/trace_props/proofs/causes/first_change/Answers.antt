use Rattle.std.proofs.Common.{◌∙◌, ◌+◌, sym, arith}
use Rattle.scram_types.proofs.Searches.{least_passes}
use Rattle.trace_props.specs.Judging.{changes_in}
use Rattle.trace_props.proofs.causes.first_change.Goals as goal

pub loop-frame-preserved : goal.loop-frame-preserved
loop-frame-preserved c =
    least_passes (changes_in c.args.spec.now c.args.rows.now) (c.args.read.end + 1) c.loop-frame.frame (omega arith) (sym c.changes_in.ensures ∙ c.if-changes_in.false)
    ∙ c.loop-frame.invariant
