use Rattle.std.proofs.Common.{rules, ◌∙◌, ◌+◌, sym, arith}
use Rattle.scram_types.proofs.Searches.{least_passes}
use Rattle.trace_props.specs.Judging.{breaks_at}
use Rattle.trace_props.proofs.kept.first_breach.Goals as goal

pub loop-frame-preserved : goal.loop-frame-preserved
loop-frame-preserved c =
    least_passes (breaks_at c.args.rows.now c.args.inv.now) (c.args.read.end + 1) c.loop-frame.frame (omega arith) (sym c.breaks_at.ensures ∙ c.if-breaks_at.false)
    ∙ c.loop-frame.invariant

pub loop-frame-init : goal.loop-frame-init
loop-frame-init c = search rules

pub returns : goal.returns
returns c = search rules
