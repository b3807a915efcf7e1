-- Definitions of a course, its modes, the reading of its rows, and its reports. A course consists of environments and
-- rows as functions of the frame.
use Rattle.std.specs.Prelude.{◌≡◌, ℕ, zero, suc, ◌+◌, ◌-◌, ◌<◌, ◌≤◌, Bool, true, false, ◌&&◌, Option, Some, None, if◌then◌else◌}
use Rattle.scram_types.specs.declared.rows.Env.{Env}
use Rattle.trace_props.proofs.Plans.{Plan}
use Rattle.trace_props.proofs.CourseModes.{CourseMode, course_target, course_is_running, course_decision, course_stable_decision}

-- A course of frames, environments and rows. `runs f c` is `true` if row `f` runs configuration `c`. `running f` is
-- the configuration with the smallest number that row `f` runs, or `None` if the row runs none.
pub record Course : Type 0 where
  pub frames : ℕ
  pub env : ℕ → Env
  pub runs : ℕ → ℕ → Bool
  pub running : ℕ → Option ℕ

abbrev pub course_changes_at : Plan → (ℕ → Env) → ℕ → Bool
course_changes_at plan env zero = false
course_changes_at plan env (suc f) = plan.differ (env f) (env (suc f))

-- The number of change frames up to and including a frame.
abbrev pub course_changes_upto : Plan → (ℕ → Env) → ℕ → ℕ
course_changes_upto plan env zero = 0
course_changes_upto plan env (suc f) = course_changes_upto plan env f + (if plan.differ (env f) (env (suc f)) then 1 else 0)

abbrev pub course_decision_after : Plan → Course → ℕ → CourseMode → CourseMode
course_decision_after plan course f mode = course_decision plan (suc f) mode (course_is_running plan mode f) (course_is_running plan mode f && course.runs f (course_target mode)) (course.env (suc f))

abbrev pub course_mode_at : Plan → Course → ℕ → CourseMode
course_mode_at plan course zero = course_stable_decision 0 plan.start (plan.choose plan.start (course.env 0))
course_mode_at plan course (suc f) = course_decision_after plan course f (course_mode_at plan course f)

pub data CourseReading : Type 0 where
  Steady : ℕ → CourseReading
  Leaving : ℕ → ℕ → CourseReading

pub record CourseReport : Type 0 where
  pub from : ℕ
  pub to : ℕ
  pub begin : ℕ
  pub end : ℕ

abbrev pub course_arrive : ℕ → ℕ → Option ℕ → CourseReading
course_arrive c s None = Leaving c s
course_arrive c s (Some j) = Steady j

abbrev pub course_read_row : Course → ℕ → CourseReading → CourseReading
course_read_row course f (Steady c) = if course.runs f c then Steady c else Leaving c f
course_read_row course f (Leaving c s) = course_arrive c s (course.running f)

abbrev pub course_reading_before : Plan → Course → ℕ → CourseReading
course_reading_before plan course zero = Steady plan.start
course_reading_before plan course (suc f) = course_read_row course f (course_reading_before plan course f)

abbrev pub course_arrival : ℕ → ℕ → ℕ → Option ℕ → Option CourseReport
course_arrival c s f None = None
course_arrival c s f (Some j) = Some (record { from = c; to = j; begin = s; end = f })

abbrev pub course_report_of : Course → ℕ → CourseReading → Option CourseReport
course_report_of course f (Steady c) = None
course_report_of course f (Leaving c s) = course_arrival c s f (course.running f)

abbrev pub course_report_at : Plan → Course → ℕ → Option CourseReport
course_report_at plan course f = course_report_of course f (course_reading_before plan course f)

-- The course keeps to the failure assumption.
pub record IsCourseWithin (plan : Plan) (course : Course) : Type 0 where
  pub opens : course.env 0 ≡ plan.opening
  pub scope : (f : ℕ) → f ≤ course.frames → plan.in_scope (course.env f) ≡ true
  pub few : (f : ℕ) → f ≤ course.frames → course_changes_upto plan course.env f ≤ course_changes_upto plan course.env (f - plan.window) + plan.changes + 1

-- Row `f` agrees with a mode. The row runs no configuration but the mode's target, and runs the target only if the
-- orders of the frame are to run it. If the row does not run a target that it is to run, then the target cannot run
-- in the environment of frame `f` or of the next frame.
pub record CourseRowUnder (plan : Plan) (course : Course) (f : ℕ) (mode : CourseMode) : Type 0 where
  pub only : (j : ℕ) → course.runs f j ≡ true → (course_is_running plan mode f ≡ true) × (course_target mode ≡ j)
  pub lost : course_is_running plan mode f ≡ true → course.runs f (course_target mode) ≡ false → plan.is_runnable (course_target mode) (course.env f) ≡ true → plan.is_runnable (course_target mode) (course.env (suc f)) ≡ false
  pub none_runs : course.running f ≡ None → (j : ℕ) → course.runs f j ≡ false
  pub one_runs : (j : ℕ) → course.running f ≡ Some j → course.runs f j ≡ true

abbrev pub IsCourseFlown : Plan → Course → Type 0
IsCourseFlown plan course = (f : ℕ) → f < course.frames → CourseRowUnder plan course f (course_mode_at plan course f)
