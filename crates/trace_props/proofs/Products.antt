-- The plan and the build of a specification, and the course of a script.
use Rattle.std.specs.Prelude.{ℕ, Bool, true, false, not, ◌&&◌, ◌==◌, ◌^◌, nat_lt, length, slice_get, Option, Some, None}
use Rattle.std.specs.Option.{option_map_or}
use Rattle.scram_types.specs.declared.ids.ConfId.{ConfId}
use Rattle.scram_types.specs.declared.rows.Env.{Env}
use Rattle.scram_types.specs.declared.orders.KMode.{KMode}
use Rattle.scram_types.specs.declared.orders.KMode.TheVariants as kmode
use Rattle.scram_types.specs.declared.specification.Factor.{Factor}
use Rattle.scram_types.specs.declared.specification.Policy.{Policy}
use Rattle.scram_types.specs.declared.specification.Policy.TheVariants.{Retarget, Settle}
use Rattle.scram_types.specs.Scripts.{ScriptParts}
use Rattle.scram_types.specs.Specification.{Parts, bound_in}
use Rattle.scram_types.specs.Lookups.{place_of, opening_env, conf_id}
use Rattle.scram_types.specs.Searches.{least_from, all_below}
use Rattle.choice_table.specs.Choices.{choose, is_runnable}
use Rattle.choice_table.specs.Environments.{factor_in, in_scope, is_up_in}
use Rattle.dep_order.specs.Timetables.{halt_offset, halt_time, halting_time, init_offset, init_time, initialising_time, prepare_time, preparing_time}
use Rattle.fault_script.specs.Assumption.{is_same_env}
use Rattle.fault_script.specs.Environments.{env_at}
use Rattle.coverage_check.specs.Timing.{slowest}
use Rattle.frame_model.specs.declared.phases.Phase as told
use Rattle.frame_model.specs.declared.phases.Phase.TheVariants as told_phase
use Rattle.frame_model.specs.Flights.{row_at}
use Rattle.frame_model.specs.Runs.{runs}
use Rattle.trace_props.proofs.Plans.{Plan}
use Rattle.trace_props.proofs.CourseModes.{CourseMode, CourseMode.Stable, CourseMode.Moving}
use Rattle.trace_props.proofs.Courses.{Course}
use Rattle.trace_props.proofs.CourseRows.{CoursePhase, CoursePhase.Running, CoursePhase.Halting, CoursePhase.Preparing, CoursePhase.Initialising, Build}

-- Whether the number that an environment gives for factor `x` is the number of a value of the factor. If there is no
-- such factor, whether the number is 0.
abbrev pub has_value : Parts → Env → ℕ → Bool
has_value spec v x = nat_lt (factor_in v x) (option_map_or (λ (factor : Factor). length factor.values) (slice_get spec.factors x) 1)

-- Whether an environment belongs to the specification.
abbrev pub is_env : Parts → Env → Bool
is_env spec v = nat_lt v.up (2 ^ length spec.procs) && (length v.factors == 6 && all_below (has_value spec v) 6)

abbrev pub settles_under : Policy → Bool
settles_under Retarget = false
settles_under Settle = true

abbrev pub plan_of : Parts → Plan
plan_of spec = record {
  configurations = length spec.confs;
  start = spec.start.0;
  opening = opening_env spec;
  settles = settles_under spec.policy;
  changes = spec.changes;
  window = spec.window;
  slowest = slowest spec;
  halting = λ c. halting_time spec (conf_id c);
  preparing = λ c. preparing_time spec (conf_id c);
  initialising = λ c. initialising_time spec (conf_id c);
  choose = λ c v. (choose spec (conf_id c) v).0;
  is_runnable = λ c v. is_runnable spec (conf_id c) v;
  in_scope = λ v. is_env spec v && in_scope spec v;
  differ = λ v w. not (is_same_env v w);
  bound = bound_in spec.bounds;
}

abbrev pub build_of : Parts → Build
build_of spec = record {
  apps = length spec.apps;
  place = λ c a. place_of spec (conf_id c) a;
  halt_offset = λ c a. halt_offset spec (conf_id c) a;
  halt_time = λ c a. halt_time spec (conf_id c) a;
  prepare_time = λ c a. prepare_time spec (conf_id c) a;
  init_offset = λ c a. init_offset spec (conf_id c) a;
  init_time = λ c a. init_time spec (conf_id c) a;
  is_up = λ p v. is_up_in v p;
}

-- Whether row `f` runs configuration `c`.
abbrev pub runs_in_row : Parts → ScriptParts → ℕ → ℕ → Bool
runs_in_row spec script f c = runs spec (row_at spec script f).acts (conf_id c)

abbrev pub course_of : Parts → ScriptParts → Course
course_of spec script = record {
  frames = script.frames;
  env = env_at spec script;
  runs = runs_in_row spec script;
  running = λ f. least_from (runs_in_row spec script f) 0 (length spec.confs);
}

abbrev pub halting_number : Option ConfId → Option ℕ
halting_number None = None
halting_number (Some c) = Some c.0

abbrev pub course_mode_of : KMode → CourseMode
course_mode_of (kmode.Stable c) = Stable c.0
course_mode_of (kmode.Moving from halting to since) = Moving from.0 (halting_number halting) to.0 since

abbrev pub course_phase_of : told.Phase → CoursePhase
course_phase_of (told_phase.Running c) = Running c.0
course_phase_of (told_phase.Halting c age) = Halting c.0 age
course_phase_of (told_phase.Preparing c age) = Preparing c.0 age
course_phase_of (told_phase.Initialising c age) = Initialising c.0 age
