use Rattle.std.proofs.Common.{◌-◌, arith}
use Rattle.fault_family.specs.Scripts.{script_in_frames}
use Rattle.fault_family.proofs.Counting.{upto_before}
use Rattle.fault_family.proofs.within.is_change_too_many.Goals as goal

pub overflow_sub-result : goal.overflow_sub-result
overflow_sub-result c =
    let less = upto_before c.args.spec.now (script_in_frames c.args.script.now.frames c.args.script.now.faults.now) (c.args.frame - c.args.spec.now.window) c.args.frame (omega arith) in
    omega (arith, less, c.requires.counts.upto, c.requires.counts.past)
