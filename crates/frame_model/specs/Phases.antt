-- The phases of the kernel's mode.
use Rattle.std.specs.Prelude.{ℕ, ◌+◌, ◌-◌, Bool, true, false, nat_le, nat_lt, List, replicate, Option, Some, None, if◌then◌else◌}
use Rattle.scram_types.specs.declared.ids.ConfId.{ConfId}
use Rattle.scram_types.specs.declared.orders.KMode.{KMode}
use Rattle.scram_types.specs.declared.orders.KMode.TheVariants.{Stable, Moving}
use Rattle.scram_types.specs.Specification.{Parts}
use Rattle.dep_order.specs.Timetables.{halting_time, initialising_time, preparing_time, timetable}
use Rattle.frame_model.specs.declared.phases.Phase.{Phase}
use Rattle.frame_model.specs.declared.phases.Phase.TheVariants.{Running, Halting, Preparing, Initialising}

-- The configuration that a mode runs or moves to.
abbrev pub target : KMode → ConfId
target (Stable c) = c
target (Moving from halting to since) = to

-- The length of the halting phase in frames, or 0 if no configuration halts.
abbrev pub halting_frames : Parts → Option ConfId → ℕ
halting_frames spec None = 0
halting_frames spec (Some c) = halting_time spec c

-- The phase of a reconfiguration to `to` in the frame that is `age` frames after the end of the halting phase:
-- preparing, then initialising, then running.
abbrev pub after_halting : Parts → ConfId → ℕ → Phase
after_halting spec to age =
    if nat_lt age (preparing_time spec to) then Preparing to age
    else (if nat_lt (age - preparing_time spec to) (initialising_time spec to) then Initialising to (age - preparing_time spec to)
    else Running to)

-- The phase of a reconfiguration to `to`, `age` frames after its phases began. The halting phase comes first if a
-- configuration halts.
abbrev pub moving_phase : Parts → Option ConfId → ConfId → ℕ → Phase
moving_phase spec None to age = after_halting spec to age
moving_phase spec (Some c) to age =
    if nat_lt age (halting_time spec c) then Halting c age else after_halting spec to (age - halting_time spec c)

-- The phase of a mode in frame `f`. In a moving mode, a configuration halts first, if any. Then the target prepares,
-- initialises and runs.
abbrev pub phase_at : Parts → KMode → ℕ → Phase
phase_at spec (Stable c) f = Running c
phase_at spec (Moving from halting to since) f = moving_phase spec halting to (f - since)

-- Whether frame `f` of a reconfiguration that began in frame `since` is past halting, preparing and initialising, so
-- that the target is to run.
abbrev pub is_past : Parts → Option ConfId → ConfId → ℕ → ℕ → Bool
is_past spec halting to since f =
    nat_le (halting_frames spec halting + preparing_time spec to + initialising_time spec to) (f - since)

-- Whether the mode is a reconfiguration that is past halting, preparing and initialising in frame `f`.
abbrev pub is_settled : Parts → KMode → ℕ → Bool
is_settled spec (Stable c) f = false
is_settled spec (Moving from halting to since) f = is_past spec halting to since f

-- For each application, the frame of the phase in which its turn begins, counted from 0. The frame is 0 if the
-- applications have no turns in the phase.
abbrev pub offsets_in : Parts → Phase → List ℕ
offsets_in spec (Running c) = replicate 8 0
offsets_in spec (Halting c age) = (timetable spec c).halt
offsets_in spec (Preparing c age) = replicate 8 0
offsets_in spec (Initialising c age) = (timetable spec c).init

-- Whether the phase is the last one, in which each application with a place runs.
abbrev pub is_running : Phase → Bool
is_running (Running c) = true
is_running (Halting c age) = false
is_running (Preparing c age) = false
is_running (Initialising c age) = false
