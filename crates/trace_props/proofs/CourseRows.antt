-- Phases, orders, acts and rows, and the relation between a course's rows and its modes.
use Rattle.std.specs.Prelude.{◌≡◌, ℕ, suc, ◌+◌, ◌-◌, ◌<◌, ◌≤◌, ◌⊎◌, Bool, true, false, ◌&&◌, Option, Some, None, if◌then◌else◌, nat_eq, nat_lt}
use Rattle.scram_types.specs.declared.rows.Env.{Env}
use Rattle.scram_types.specs.declared.specification.Place.{Place}
use Rattle.scram_types.specs.Searches.{least_from, all_below}
use Rattle.trace_props.proofs.Plans.{Plan, IsAcceptedPlan}
use Rattle.trace_props.proofs.CourseModes.{CourseMode, CourseMode.Stable, CourseMode.Moving}
use Rattle.trace_props.proofs.Courses.{Course, course_mode_at, IsCourseWithin}
use Rattle.trace_props.proofs.Promises.{IsCourseAllAssured}

pub data CoursePhase : Type 0 where
  Running : ℕ → CoursePhase
  Halting : ℕ → ℕ → CoursePhase
  Preparing : ℕ → ℕ → CoursePhase
  Initialising : ℕ → ℕ → CoursePhase

pub data CourseOrder : Type 0 where
  Run : Place → CourseOrder
  Halt : ℕ → ℕ → Place → CourseOrder
  Hold : Place → CourseOrder
  Prepare : ℕ → ℕ → Place → CourseOrder
  Init : ℕ → ℕ → Place → CourseOrder
  Off : CourseOrder

pub data CourseAct : Type 0 where
  Ran : Place → CourseAct
  Halted : ℕ → ℕ → Place → CourseAct
  Held : CourseAct
  Prepared : ℕ → ℕ → Place → CourseAct
  Initialised : ℕ → ℕ → Place → CourseAct
  WasOff : CourseAct
  Lost : CourseAct

-- The applications, their places, and the begin and length of each of their phases.
pub record Build : Type 0 where
  pub apps : ℕ
  pub place : ℕ → ℕ → Option Place
  pub halt_offset : ℕ → ℕ → ℕ
  pub halt_time : ℕ → ℕ → ℕ
  pub prepare_time : ℕ → ℕ → ℕ
  pub init_offset : ℕ → ℕ → ℕ
  pub init_time : ℕ → ℕ → ℕ
  pub is_up : ℕ → Env → Bool

abbrev pub course_after_halting : Plan → ℕ → ℕ → CoursePhase
course_after_halting plan to age =
    if nat_lt age (plan.preparing to) then Preparing to age
    else (if nat_lt (age - plan.preparing to) (plan.initialising to) then Initialising to (age - plan.preparing to) else Running to)

abbrev pub course_moving_phase : Plan → Option ℕ → ℕ → ℕ → CoursePhase
course_moving_phase plan None to age = course_after_halting plan to age
course_moving_phase plan (Some h) to age = if nat_lt age (plan.halting h) then Halting h age else course_after_halting plan to (age - plan.halting h)

abbrev pub course_phase : Plan → CourseMode → ℕ → CoursePhase
course_phase plan (Stable c) f = Running c
course_phase plan (Moving from halting to since) f = course_moving_phase plan halting to (f - since)

abbrev pub course_running_order : Option Place → CourseOrder
course_running_order None = Off
course_running_order (Some p) = Run p

abbrev pub course_halting_order : ℕ → ℕ → ℕ → Option Place → CourseOrder
course_halting_order offset time age None = Off
course_halting_order offset time age (Some p) = if nat_lt age offset then Run p else (if nat_lt (age - offset) time then Halt (age - offset) time p else Hold p)

abbrev pub course_preparing_order : ℕ → ℕ → Option Place → CourseOrder
course_preparing_order time age None = Off
course_preparing_order time age (Some p) = if nat_lt age time then Prepare age time p else Hold p

abbrev pub course_initialising_order : ℕ → ℕ → ℕ → Option Place → CourseOrder
course_initialising_order offset time age None = Off
course_initialising_order offset time age (Some p) = if nat_lt age offset then Hold p else (if nat_lt (age - offset) time then Init (age - offset) time p else Hold p)

abbrev pub course_order_in : Build → CoursePhase → ℕ → CourseOrder
course_order_in build (Running c) a = course_running_order (build.place c a)
course_order_in build (Halting c age) a = course_halting_order (build.halt_offset c a) (build.halt_time c a) age (build.place c a)
course_order_in build (Preparing c age) a = course_preparing_order (build.prepare_time c a) age (build.place c a)
course_order_in build (Initialising c age) a = course_initialising_order (build.init_offset c a) (build.init_time c a) age (build.place c a)

-- The act that carries out an order, given the processors that commit.
abbrev pub course_act_of : (ℕ → Bool) → CourseOrder → CourseAct
course_act_of commits (Run p) = if commits p.proc.0 then Ran p else Lost
course_act_of commits (Halt k n p) = if commits p.proc.0 then Halted k n p else Lost
course_act_of commits (Hold p) = if commits p.proc.0 then Held else Lost
course_act_of commits (Prepare k n p) = if commits p.proc.0 then Prepared k n p else Lost
course_act_of commits (Init k n p) = if commits p.proc.0 then Initialised k n p else Lost
course_act_of commits Off = WasOff

abbrev pub place_eq : Place → Place → Bool
place_eq p q = nat_eq p.mode.0 q.mode.0 && nat_eq p.proc.0 q.proc.0

abbrev pub course_is_ran : Place → CourseAct → Bool
course_is_ran p (Ran q) = place_eq q p
course_is_ran p (Halted k n q) = false
course_is_ran p Held = false
course_is_ran p (Prepared k n q) = false
course_is_ran p (Initialised k n q) = false
course_is_ran p WasOff = false
course_is_ran p Lost = false

abbrev pub course_is_off : CourseAct → Bool
course_is_off (Ran q) = false
course_is_off (Halted k n q) = false
course_is_off Held = false
course_is_off (Prepared k n q) = false
course_is_off (Initialised k n q) = false
course_is_off WasOff = true
course_is_off Lost = false

abbrev pub course_fits_place : Option Place → CourseAct → Bool
course_fits_place None act = course_is_off act
course_fits_place (Some p) act = course_is_ran p act

-- Whether the acts of a row run configuration `c`.
abbrev pub course_runs : Build → (ℕ → CourseAct) → ℕ → Bool
course_runs build acts c = all_below (λ a. course_fits_place (build.place c a) (acts a)) build.apps

abbrev pub course_acts_at : Plan → Build → Course → (ℕ → ℕ → Bool) → ℕ → ℕ → CourseAct
course_acts_at plan build course commits f a = course_act_of (commits f) (course_order_in build (course_phase plan (course_mode_at plan course f) f) a)

-- The build agrees with the plan of an accepted specification. An application has a place only in configurations that
-- exist. In each configuration some application halts first. Each initialisation takes at least one frame and ends
-- within the initialising phase. Configurations with the same places are equal. Each processor that a runnable
-- configuration uses is up.
pub record IsBuilt (plan : Plan) (build : Build) : Type 0 where
  pub placed_in : (c a : ℕ) (p : Place) → build.place c a ≡ Some p → c < plan.configurations
  pub first_halts : (c : ℕ) → c < plan.configurations → (a : ℕ) × (p : Place) × (a < build.apps) × (build.place c a ≡ Some p) × (build.halt_offset c a ≡ 0)
  pub inits : (c a : ℕ) (p : Place) → a < build.apps → build.place c a ≡ Some p → (1 ≤ build.init_time c a) × (build.init_offset c a + build.init_time c a ≤ plan.initialising c)
  pub differ : (i j : ℕ) → i < plan.configurations → j < plan.configurations → ((a : ℕ) → a < build.apps → build.place i a ≡ build.place j a) → i ≡ j
  pub needs_up : (c a : ℕ) (p : Place) (v : Env) → a < build.apps → build.place c a ≡ Some p → plan.is_runnable c v ≡ true → build.is_up p.proc.0 v ≡ true

-- The rows of the course result from the orders and the processors that commit. A processor that does not commit a
-- frame is down in the environment of that frame or of the next frame.
pub record IsRun (plan : Plan) (build : Build) (course : Course) (commits : ℕ → ℕ → Bool) : Type 0 where
  pub runs_is : (f j : ℕ) → f < course.frames → course.runs f j ≡ course_runs build (course_acts_at plan build course commits f) j
  pub running_is : (f : ℕ) → f < course.frames → course.running f ≡ least_from (course.runs f) 0 plan.configurations
  pub loses : (f p : ℕ) → f < course.frames → commits f p ≡ false → (build.is_up p (course.env f) ≡ false) ⊎ (build.is_up p (course.env (suc f)) ≡ false)

abbrev pub ReconfiguresBuilt : Type 0
ReconfiguresBuilt = (plan : Plan) (build : Build) (course : Course) (commits : ℕ → ℕ → Bool) → IsAcceptedPlan plan → IsBuilt plan build → IsCourseWithin plan course → IsRun plan build course commits → IsCourseAllAssured plan course
