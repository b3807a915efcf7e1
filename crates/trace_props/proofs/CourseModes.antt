-- Definitions of the kernel's mode over a course, and of its decision at the start of a frame.
use Rattle.std.specs.Prelude.{ℕ, ◌+◌, ◌-◌, Bool, true, ◌&&◌, Option, Some, None, if◌then◌else◌, nat_eq, nat_lt, nat_le}
use Rattle.scram_types.specs.declared.rows.Env.{Env}
use Rattle.trace_props.proofs.Plans.{Plan, plan_halting}

pub data CourseMode : Type 0 where
  Stable : ℕ → CourseMode
  Moving : ℕ → Option ℕ → ℕ → ℕ → CourseMode

-- The configuration that a mode runs or is to run.
abbrev pub course_target : CourseMode → ℕ
course_target (Stable c) = c
course_target (Moving from halting to since) = to

-- Whether the kernel orders the applications to run the mode's target in a frame. In a stable mode it always does. In
-- a moving mode it does so once the phases of halting, preparing and initialising are over.
abbrev pub course_is_running : Plan → CourseMode → ℕ → Bool
course_is_running plan (Stable c) frame = true
course_is_running plan (Moving from halting to since) frame = nat_le (plan_halting plan halting + plan.preparing to + plan.initialising to) (frame - since)

abbrev pub course_stable_decision : ℕ → ℕ → ℕ → CourseMode
course_stable_decision frame c t = if nat_eq t c then Stable c else Moving c (Some c) t frame

-- The target that the policy chooses in an environment.
abbrev pub course_wanted : Plan → ℕ → ℕ → Env → ℕ
course_wanted plan from to v = if (plan.settles && plan.is_runnable to v) then to else plan.choose from v

abbrev pub course_turn : Plan → ℕ → ℕ → Option ℕ → ℕ → ℕ → Bool → ℕ → CourseMode
course_turn plan frame from halting to since settled t =
    if nat_eq t to then Moving from halting to since
    else (if nat_lt (frame - since) (plan_halting plan halting) then Moving from halting t since
    else (if settled then Moving from (Some to) t frame else Moving from None t frame))

-- The mode after a decision. `settled` is `true` if the preceding frame was to run its target. `arrived` is `true` if
-- the row of the preceding frame ran that target.
abbrev pub course_decision : Plan → ℕ → CourseMode → Bool → Bool → Env → CourseMode
course_decision plan frame (Stable c) settled arrived v = course_stable_decision frame c (plan.choose c v)
course_decision plan frame (Moving from halting to since) settled arrived v =
    if arrived then course_stable_decision frame to (plan.choose to v)
    else course_turn plan frame from halting to since settled (course_wanted plan from to v)
