use Rattle.std.proofs.Common.{◌≡◌, suc, ap, arith}
use Rattle.frame_model.specs.declared.systems.Sys.{Sys}
use Rattle.test_missions.proofs.drafts.beside.fly_all.Goals as goal

pub loop-frame-preserved : goal.loop-frame-preserved
loop-frame-preserved g c =
    let next : c.frame-row.new.sys.frame ≡ suc c.loop-frame.sys.frame = ap (λ (sys : Sys). sys.frame) c.frame-row.ensures.after in
    let at = c.loop-frame.invariant.at in
    record {
      at = omega (arith, next, at);
      one_there = rw c.draft.ensures.proc c.loop-frame.invariant.one_there;
      two_there = rw c.draft-in-loop-frame.ensures.proc c.loop-frame.invariant.two_there;
    }
