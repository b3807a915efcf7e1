use Rattle.std.proofs.Common.{refl}
use Rattle.scram_doc.proofs.Growing.{step_made}
use Rattle.spec_reading.specs.Applications.{check_text}
use Rattle.spec_reading.proofs.Loops.{step_failed, steps_done}
use Rattle.spec_reading.proofs.applications.check_text_list.Goals as goal

pub loop-i-preserved : goal.loop-i-preserved
loop-i-preserved c =
    step_made check_text c.args.at.now c.loop-i.i tt c.in_ok-items.items.now c.index-items-i.result tt _
    c.loop-i-test.true c.index-items-i.is (rw (← c.item.ensures.path, ← c.in_ok-text.ensures) refl) c.loop-i.invariant

pub returns : goal.returns
returns c =
    rw (← c.in_ok-items.ensures.items)
    (steps_done check_text c.args.at.now c.loop-i.i tt c.in_ok-items.items.now _ c.loop-i-test.false c.loop-i.invariant)

pub returns-in_err-text : goal.returns-in_err-text
returns-in_err-text c =
    rw (← c.in_ok-items.ensures.items) (
    step_failed check_text c.args.at.now c.loop-i.i tt c.in_ok-items.items.now c.index-items-i.result c.in_err-text.field-0.0
    c.from_residual-in_err-text.result _ c.loop-i-test.true c.index-items-i.is (rw (← c.item.ensures.path, ← c.in_err-text.ensures) refl)
    c.from_residual-in_err-text.ensures.1 c.loop-i.invariant)
