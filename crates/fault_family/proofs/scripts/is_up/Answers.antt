use Rattle.std.proofs.Common.{◌∙◌}
use Rattle.fault_script.proofs.Halts.{up_by_lists}
use Rattle.fault_family.specs.Scripts.{script_in_frames}
use Rattle.fault_family.proofs.scripts.is_up.Goals as goal

pub returns : goal.returns
returns c = c.are_halts_over.ensures ∙ up_by_lists (script_in_frames c.args.script.now.frames c.args.script.now.faults.now) c.args.p c.args.frame
