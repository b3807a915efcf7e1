use Rattle.std.proofs.Common.{sym}
use Rattle.fault_family.specs.Scripts.{script_in_frames}
use Rattle.fault_family.proofs.Counting.{change_after_first}
use Rattle.fault_family.proofs.within.is_change_frame.Goals as goal

pub returns-then-frame-ne0 : goal.returns-then-frame-ne0
returns-then-frame-ne0 c =
    let there = change_after_first c.args.spec.now (script_in_frames c.args.script.now.frames c.args.script.now.faults.now) c.args.frame c.if-frame-ne0.true in
    sym (rw there (sym (rw (c.env_at.ensures, c.env_at-then-frame-ne0.ensures) at c.differs.ensures)))
