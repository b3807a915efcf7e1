-- Definitions of the properties that each reconfiguration of a course satisfies, and of the central facts on moving
-- frames.
use Rattle.std.specs.Prelude.{◌≡◌, ℕ, suc, ◌+◌, ◌-◌, ◌*◌, ◌<◌, ◌≤◌, ◌⊎◌, true, false, Option, Some}
use Rattle.trace_props.proofs.Plans.{Plan, IsAcceptedPlan, plan_further, plan_halting}
use Rattle.trace_props.proofs.CourseModes.{CourseMode, CourseMode.Stable, CourseMode.Moving}
use Rattle.trace_props.proofs.Courses.{Course, CourseReading, CourseReading.Steady, CourseReading.Leaving, CourseReport, course_reading_before, course_report_at, course_changes_at, course_changes_upto, course_mode_at, IsCourseWithin, IsCourseFlown}

-- A reconfiguration that begins in frame `s` follows another reconfiguration. The environment changed during the
-- earlier reconfiguration after its begin.
pub record CourseFollows (plan : Plan) (course : Course) (s : ℕ) : Type 0 where
  pub settles : plan.settles ≡ true
  pub before : CourseReport
  pub last : suc before.end ≡ s
  pub reported : course_report_at plan course before.end ≡ Some before
  pub change : ℕ
  pub after : before.begin < change
  pub up_to : change ≤ before.end
  pub changed : course_changes_at plan course.env change ≡ true

abbrev pub CourseHasCause : Plan → Course → ℕ → Type 0
CourseHasCause plan course s = (course_changes_at plan course.env s ≡ true) ⊎ (course_changes_at plan course.env (suc s) ≡ true) ⊎ CourseFollows plan course s

-- A finished reconfiguration satisfies SP2, SP3 and SP5.
pub record IsCourseAssured (plan : Plan) (course : Course) (r : CourseReport) : Type 0 where
  pub chosen_at : ℕ
  pub chosen_from : r.begin ≤ chosen_at
  pub chosen_to : chosen_at ≤ r.end
  pub chosen : plan.choose r.from (course.env chosen_at) ≡ r.to
  pub bound : ℕ
  pub given : plan.bound r.from r.to ≡ Some bound
  pub in_time : r.end ≤ r.begin + bound
  pub cause : CourseHasCause plan course r.begin

-- A reconfiguration that the end of the course cuts off satisfies SP3 and SP5.
pub record IsCourseCutOff (plan : Plan) (course : Course) (c s : ℕ) : Type 0 where
  pub to : ℕ
  pub bound : ℕ
  pub given : plan.bound c to ≡ Some bound
  pub in_time : course.frames ≤ s + bound
  pub cause : CourseHasCause plan course s

pub record IsCourseAllAssured (plan : Plan) (course : Course) : Type 0 where
  pub finished : (f : ℕ) (r : CourseReport) → f < course.frames → course_report_at plan course f ≡ Some r → IsCourseAssured plan course r
  pub unfinished : (c s : ℕ) → course_reading_before plan course course.frames ≡ Leaving c s → IsCourseCutOff plan course c s

abbrev pub Reconfigures : Type 0
Reconfigures = (plan : Plan) (course : Course) → IsAcceptedPlan plan → IsCourseWithin plan course → IsCourseFlown plan course → IsCourseAllAssured plan course

-- The first moving frame of a reconfiguration that began in frame `s`, given the mode of that frame. The value is `s`
-- if the mode is a moving one, or else the frame after `s`.
abbrev pub course_first_moving_in : CourseMode → ℕ → ℕ
course_first_moving_in (Stable c) s = suc s
course_first_moving_in (Moving from halting to since) s = s

abbrev pub course_first_moving : Plan → Course → ℕ → ℕ
course_first_moving plan course s = course_first_moving_in (course_mode_at plan course s) s

-- The begin of the reconfiguration to which a moving frame belongs.
abbrev pub course_begin_of : CourseReading → ℕ → ℕ
course_begin_of (Steady c) f = f
course_begin_of (Leaving c s) f = s

-- The number of change frames after the first moving frame and up to frame `f`.
abbrev pub course_further_changes : Plan → Course → ℕ → ℕ → ℕ
course_further_changes plan course s f = course_changes_upto plan course.env f - course_changes_upto plan course.env (course_first_moving plan course s)

-- In a moving frame `f` of a reconfiguration that began in frame `s`, the target can run, and was chosen from the
-- source in the first moving frame or later. The phases and the number of further changes are within their limits.
pub record CentralFacts (plan : Plan) (course : Course) (s f from : ℕ) (halting : Option ℕ) (to since : ℕ) : Type 0 where
  pub runnable : plan.is_runnable to (course.env f) ≡ true
  pub chosen_at : ℕ
  pub chosen_from : course_first_moving plan course s ≤ chosen_at
  pub chosen_to : chosen_at ≤ f
  pub chosen : plan.choose from (course.env chosen_at) ≡ to
  pub prompt : plan.settles ≡ false → plan.choose from (course.env f) ≡ to
  pub halted : since + plan_halting plan halting ≤ course_first_moving plan course s + plan.halting from + course_further_changes plan course s f * plan.slowest
  pub halted_by : since + plan_halting plan halting ≤ s + 1 + plan.halting from + course_further_changes plan course s f * plan.slowest
  pub settled : f ≤ since + plan_halting plan halting + plan.preparing to + plan.initialising to
  pub few : course_further_changes plan course s f ≤ plan_further plan
