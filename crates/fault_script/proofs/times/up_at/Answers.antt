use Rattle.std.proofs.Common.{◌∙◌}
use Rattle.fault_script.proofs.Halts.{up_by_lists}
use Rattle.fault_script.proofs.times.up_at.Goals as goal

pub returns : goal.returns
returns c = c.are_halts_over.ensures ∙ up_by_lists c.args.script.now c.args.proc.0 c.args.frame
