use Rattle.frame_model.proofs.Offsets.{halting_task, initialising_task}
use Rattle.frame_model.proofs.tasks.task_in.Goals as goal

pub returns-in-Halting-clause-task : goal.returns-in-Halting-clause-task
returns-in-Halting-clause-task c =
    rw (c.task_for-in-Halting.ensures.task, c.halting_order.ensures, c.halt_time.ensures, c.place_of-in-Halting.ensures.place, c.from.ensures)
    (halting_task c.args.spec.now c.in-Halting.c c.args.app.0 c.in-Halting.age c.args.stage.now.phase c.args.stage.now.offsets c.requires.app c.in-Halting.is c.requires.offsets)

pub returns-in-Initialising-clause-task : goal.returns-in-Initialising-clause-task
returns-in-Initialising-clause-task c =
    rw (c.task_for-in-Initialising.ensures.task, c.initialising_order.ensures, c.init_time.ensures, c.place_of-in-Initialising.ensures.place, c.from.ensures)
    (initialising_task c.args.spec.now c.in-Initialising.c c.args.app.0 c.in-Initialising.age c.args.stage.now.phase c.args.stage.now.offsets c.requires.app c.in-Initialising.is c.requires.offsets)
