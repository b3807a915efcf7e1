use Rattle.std.proofs.Common.{◌∙◌, ap}
use Rattle.fault_script.specs.Inputs.{input_at}
use Rattle.fault_script.proofs.Walking.{stands_next}
use Rattle.frame_model.specs.Frames.{row_given, sys_after}
use Rattle.frame_model.proofs.Flying.{row_is, stands_more}
use Rattle.frame_model.proofs.traces.fly.Goals as goal

pub returns-clause-row : goal.returns-clause-row
returns-clause-row g c =
    c.frame.ensures.row ∙ ap (row_given c.args.spec.now c.args.sys.now) (c.input-input.ensures.input ∙ ap (input_at c.args.spec.now c.args.script.now) c.requires.before.walks.frame)
    ∙ row_is c.args.spec.now c.input-input.ensures.known c.args.script.now c.args.sys.now c.args.walk.now c.requires.before

pub returns-clause-after : goal.returns-clause-after
returns-clause-after g c =
    stands_more c.args.spec.now c.input-input.ensures.known c.args.script.now c.args.sys.now c.frame.new.sys c.args.walk.now c.next.result
    c.requires.before (stands_next c.args.spec.now c.args.script.now c.args.sys.now.frame c.args.walk.now c.next.result c.requires.before.walks c.next.ensures)
    (c.frame.ensures.after ∙ ap (sys_after c.args.spec.now c.args.sys.now) (c.input-input.ensures.input ∙ ap (input_at c.args.spec.now c.args.script.now) c.requires.before.walks.frame))
