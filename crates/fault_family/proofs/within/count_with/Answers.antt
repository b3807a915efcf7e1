use Rattle.std.proofs.Common.{◌-◌, arith}
use Rattle.fault_script.proofs.Assuming.{upto_most}
use Rattle.fault_family.specs.Scripts.{script_in_frames}
use Rattle.fault_family.proofs.within.count_with.Goals as goal

pub overflow_add-result : goal.overflow_add-result
overflow_add-result c =
    let most = upto_most c.args.spec.now (script_in_frames c.args.script.now.frames c.args.script.now.faults.now) (c.args.frame - 1) in
    omega (arith, most, c.requires.count, c.requires.frame)
