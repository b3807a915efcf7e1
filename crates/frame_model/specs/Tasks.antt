-- The task of each application in a phase.
use Rattle.std.specs.Prelude.{ℕ, ◌-◌, nat_lt, Option, Some, None, if◌then◌else◌}
use Rattle.scram_types.specs.declared.orders.KMode.{KMode}
use Rattle.scram_types.specs.declared.orders.Order.{Order}
use Rattle.scram_types.specs.declared.orders.Order.TheVariants.{Run, Halt, Hold, Prepare, Init, Off}
use Rattle.scram_types.specs.declared.specification.Place.{Place}
use Rattle.scram_types.specs.Specification.{Parts}
use Rattle.scram_types.specs.Lookups.{place_of}
use Rattle.dep_order.specs.Timetables.{halt_offset, halt_time, init_offset, init_time, prepare_time}
use Rattle.frame_model.specs.declared.phases.Phase.{Phase}
use Rattle.frame_model.specs.declared.phases.Phase.TheVariants.{Running, Halting, Preparing, Initialising}
use Rattle.frame_model.specs.declared.tasks.Task.{Task}
use Rattle.frame_model.specs.Phases.{phase_at}

-- The task of an application that is off.
abbrev pub off_task : Task
off_task = record { order = Off; mode = record { 0 = 0 }; proc = None }

-- The task of an application at a place, given its order.
abbrev pub task_at : Order → Place → Task
task_at order place = record { order = order; mode = place.mode; proc = Some place.proc }

-- The task of an application, given its order and its place, or `off_task` if it has no place.
abbrev pub task_for : Order → Option Place → Task
task_for order None = off_task
task_for order (Some place) = task_at order place

-- The order in frame `age` of a halting phase: to run up to the offset, then to halt for `time` frames, and then to
-- hold.
abbrev pub halting_order : ℕ → ℕ → ℕ → Order
halting_order offset time age = if nat_lt age offset then Run else (if nat_lt (age - offset) time then Halt (age - offset) time else Hold)

-- The order in frame `age` of a preparing phase: to prepare for `time` frames, and then to hold.
abbrev pub preparing_order : ℕ → ℕ → Order
preparing_order time age = if nat_lt age time then Prepare age time else Hold

-- The order in frame `age` of an initialising phase: to hold up to the offset, then to initialise for `time` frames,
-- and then to hold.
abbrev pub initialising_order : ℕ → ℕ → ℕ → Order
initialising_order offset time age = if nat_lt age offset then Hold else (if nat_lt (age - offset) time then Init (age - offset) time else Hold)

-- The task of application `a` in a phase.
abbrev pub task_in : Parts → Phase → ℕ → Task
task_in spec (Running c) a = task_for Run (place_of spec c a)
task_in spec (Halting c age) a = task_for (halting_order (halt_offset spec c a) (halt_time spec c a) age) (place_of spec c a)
task_in spec (Preparing c age) a = task_for (preparing_order (prepare_time spec c a) age) (place_of spec c a)
task_in spec (Initialising c age) a = task_for (initialising_order (init_offset spec c a) (init_time spec c a) age) (place_of spec c a)

-- The task of application `a` in frame `f` of a mode.
abbrev pub task_of : Parts → KMode → ℕ → ℕ → Task
task_of spec mode f a = task_in spec (phase_at spec mode f) a
