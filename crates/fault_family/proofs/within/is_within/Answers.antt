use Rattle.std.proofs.Common.{◌≡◌, ◌∙◌, ◌+◌, ◌-◌, arith, sym}
use Rattle.fault_family.specs.Scripts.{script_in_frames}
use Rattle.fault_family.proofs.Counting.{leaves_at, leaves_not_at, leaves_nowhere}
use Rattle.fault_family.proofs.within.is_within.Goals as goal

pub returns-then-is_outside_at : goal.returns-then-is_outside_at
returns-then-is_outside_at c =
    leaves_at c.args.spec.now (script_in_frames c.args.script.now.frames c.args.script.now.faults.now) c.loop-frame.frame (omega (arith, c.loop-frame-test.true)) c.loop-frame.invariant.inside
    (sym c.is_outside_at.ensures ∙ c.if-is_outside_at.true)

pub loop-frame-preserved : goal.loop-frame-preserved
loop-frame-preserved c =
    let back : c.loop-frame.frame + 1 - 1 ≡ c.loop-frame.frame = omega arith in
    record {
      counts = rw back c.counts_with-counts.ensures;
      inside = leaves_not_at c.args.spec.now (script_in_frames c.args.script.now.frames c.args.script.now.faults.now) c.loop-frame.frame c.loop-frame.invariant.inside
          (sym c.is_outside_at.ensures ∙ c.if-is_outside_at.false);
    }

pub returns : goal.returns
returns c =
    leaves_nowhere c.args.spec.now (script_in_frames c.args.script.now.frames c.args.script.now.faults.now) c.loop-frame.frame
    (omega (arith, c.loop-frame-test.false, c.loop-frame.auto.frame-end)) c.loop-frame.invariant.inside
