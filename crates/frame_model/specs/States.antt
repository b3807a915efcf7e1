-- The effect of a frame on the state, given the frame's environment and the processors that commit.
use Rattle.std.specs.Prelude.{◌≡◌, ℕ, ◌-◌, ◌==◌, ℤ, pos, Bool, false, ◌&&◌, List, [], ◌∷◌, replicate, slice_index_or, Option, Some, None, option_map, if◌then◌else◌}
use Rattle.scram_types.specs.Lookups.{kind_of_app, place_of}
use Rattle.scram_types.specs.Eights.{eight}
use Rattle.scram_types.specs.declared.ids.ProcId.{ProcId}
use Rattle.scram_types.specs.declared.ids.Mode.{Mode}
use Rattle.scram_types.specs.declared.rows.Env.{Env}
use Rattle.scram_types.specs.declared.rows.Row.{Row}
use Rattle.scram_types.specs.declared.rows.World.{World}
use Rattle.scram_types.specs.declared.orders.Act.{Act}
use Rattle.scram_types.specs.declared.orders.Act.TheVariants as act
use Rattle.scram_types.specs.declared.orders.KMode.{KMode}
use Rattle.scram_types.specs.declared.orders.KMode.TheVariants.{Stable}
use Rattle.scram_types.specs.declared.orders.Order.{Order}
use Rattle.scram_types.specs.declared.orders.Order.TheVariants as order
use Rattle.scram_types.specs.declared.specification.AppSpec.{AppSpec}
use Rattle.scram_types.specs.declared.specification.Place.{Place}
use Rattle.scram_types.specs.Numbers.{word}
use Rattle.scram_types.specs.Specification.{Parts}
use Rattle.app_model.specs.declared.seen.Seen.{Seen}
use Rattle.app_model.specs.Law.{law}
use Rattle.app_model.specs.Starts.{start_of}
use Rattle.airframe.specs.Motion.{step_of}
use Rattle.frame_model.specs.declared.phases.Phase.{Phase}
use Rattle.frame_model.specs.declared.tasks.Task.{Task}
use Rattle.frame_model.specs.Decisions.{decision}
use Rattle.frame_model.specs.Phases.{is_settled, phase_at, target}
use Rattle.frame_model.specs.Runs.{runs}
use Rattle.frame_model.specs.Tasks.{task_in}

-- The state between two frames: the mode of the preceding frame, the areas and their keepers, and the world.
-- `arrived` is `true` if the preceding frame was settled and its row ran the target.
pub record State : Type 0 where
  pub mode : KMode
  pub arrived : Bool
  pub areas : List (List ℤ)
  pub keepers : List (Option ProcId)
  pub world : World

-- An area of eight zeros.
abbrev pub zeros : List ℤ
zeros = replicate 8 (pos 0)

-- The area of application `a`, or zeros past the last application.
abbrev pub area_at : List (List ℤ) → ℕ → List ℤ
area_at areas a = slice_index_or areas a zeros

-- The processor that keeps the area of application `a`, or `None` if no processor keeps it.
abbrev pub keeper_at : List (Option ProcId) → ℕ → Option ProcId
keeper_at keepers a = slice_index_or keepers a None

-- The area of the first application of a kind, given the areas of the applications in order, or zeros if the kind has
-- no application.
abbrev pub lead_among : List AppSpec → List (List ℤ) → ℕ → List ℤ
lead_among [] areas kind = zeros
lead_among (app ∷ apps) [] kind = zeros
lead_among (app ∷ apps) (area ∷ areas) kind = if app.kind.0 == kind then area else lead_among apps areas kind

-- The area of the lowest-numbered application of a kind, or zeros if the kind has no application.
abbrev pub lead_of : Parts → List (List ℤ) → ℕ → List ℤ
lead_of spec areas kind = lead_among spec.apps areas kind

-- What all applications see: the areas and the world at the end of the preceding frame, the frame's factors, and the
-- goal.
abbrev pub seen_by_all : Parts → Env → State → Seen
seen_by_all spec v state = record {
  mode = record { 0 = 0 };
  own = zeros;
  lead = eight (lead_of spec state.areas);
  world = state.world;
  factors = v.factors;
  goal = spec.goal;
}

-- What one application sees, given what all applications see, its mode and its own area.
abbrev pub seen_in : Seen → Mode → List ℤ → Seen
seen_in seen mode own = record seen { mode = mode; own = own }

-- Two values of `Seen` differ at most in the mode and the own area.
abbrev pub ShowAlike : Seen → Seen → Type 0
ShowAlike seen other = (mode : Mode) (own : List ℤ) → seen_in other mode own ≡ seen_in seen mode own

-- What application `a` sees in a mode.
abbrev pub seen_by : Parts → Env → State → Mode → ℕ → Seen
seen_by spec v state mode a = seen_in (seen_by_all spec v state) mode (area_at state.areas a)

-- The area of application `a` after a task, by the law of the application's kind.
abbrev pub law_of : Parts → Env → State → Task → ℕ → List ℤ
law_of spec v state task a = law (kind_of_app spec a) task.order (seen_by spec v state task.mode a)

-- The act of an application that carries out an order in a mode on a processor that commits.
abbrev pub act_of_order : Order → Mode → ProcId → Act
act_of_order order.Run mode proc = act.Ran mode proc
act_of_order (order.Halt k n) mode proc = act.Halting k n proc
act_of_order order.Hold mode proc = act.Held
act_of_order (order.Prepare k n) mode proc = act.Preparing k n proc
act_of_order (order.Init k n) mode proc = act.Initialising k n proc
act_of_order order.Off mode proc = act.Off

-- The act of a task: `Off` without a processor, the act of the order if the processor commits, or else `Lost`.
abbrev pub act_on : (ℕ → Bool) → Task → Option ProcId → Act
act_on commits task None = act.Off
act_on commits task (Some proc) = if commits proc.0 then act_of_order task.order task.mode proc else act.Lost

-- The area after a task: zeros without a processor, the new area if the processor commits, or else the old area.
abbrev pub area_on : (ℕ → Bool) → List ℤ → List ℤ → Option ProcId → List ℤ
area_on commits made old None = zeros
area_on commits made old (Some proc) = if commits proc.0 then made else old

-- The keeper after a task: `None` without a processor, the processor if it commits, or else the old keeper.
abbrev pub keeper_on : (ℕ → Bool) → Option ProcId → Option ProcId → Option ProcId
keeper_on commits old None = None
keeper_on commits old (Some proc) = if commits proc.0 then Some proc else old

-- The act of an application with a task, given whether each processor commits.
abbrev pub act_after : (ℕ → Bool) → Task → Act
act_after commits task = act_on commits task task.proc

-- The area of application `a` after a frame in which it has a task.
abbrev pub area_after : Parts → Env → (ℕ → Bool) → State → Task → ℕ → List ℤ
area_after spec v commits state task a = area_on commits (law_of spec v state task a) (area_at state.areas a) task.proc

-- The processor that keeps the area of application `a` after a frame in which it has a task, or `None` if no
-- processor keeps the area.
abbrev pub keeper_after : (ℕ → Bool) → State → Task → ℕ → Option ProcId
keeper_after commits state task a = keeper_on commits (keeper_at state.keepers a) task.proc

-- The acts of the eight applications in a phase.
abbrev pub acts_in : Parts → Phase → (ℕ → Bool) → List Act
acts_in spec phase commits = eight (λ a. act_after commits (task_in spec phase a))

-- The areas of the eight applications after a frame in a phase.
abbrev pub areas_in : Parts → Env → (ℕ → Bool) → State → Phase → List (List ℤ)
areas_in spec v commits state phase = eight (λ a. area_after spec v commits state (task_in spec phase a) a)

-- The keepers of the eight areas after a frame in a phase.
abbrev pub keepers_in : Parts → (ℕ → Bool) → State → Phase → List (Option ProcId)
keepers_in spec commits state phase = eight (λ a. keeper_after commits state (task_in spec phase a) a)

-- The world after the airframe's step. The step depends on the surfaces in the area of the lowest-numbered flight
-- control at the end of the frame.
abbrev pub world_in : Parts → World → List (List ℤ) → World
world_in spec world areas = step_of world (word (lead_of spec areas 1) 1) (word (lead_of spec areas 1) 2)

-- The decision at the start of frame `f`, given the frame's environment and the state before the frame.
abbrev pub mode_decided : Parts → ℕ → Env → State → KMode
mode_decided spec f v state = decision spec f state.mode (is_settled spec state.mode (f - 1)) state.arrived v

-- The row of frame `f`, given the mode that is decided at its start.
abbrev pub row_in : Parts → ℕ → Env → (ℕ → Bool) → State → KMode → Row
row_in spec f v commits state mode = record {
  frame = f;
  env = v;
  mode = mode;
  acts = acts_in spec (phase_at spec mode f) commits;
  areas = areas_in spec v commits state (phase_at spec mode f);
  world = world_in spec state.world (areas_in spec v commits state (phase_at spec mode f));
}

-- The row of frame `f`, given its environment, whether each processor commits, and the state before the frame.
abbrev pub row_of : Parts → ℕ → Env → (ℕ → Bool) → State → Row
row_of spec f v commits state = row_in spec f v commits state (mode_decided spec f v state)

-- Whether the frame of the row was settled and the row ran the target of its mode.
abbrev pub has_arrived : Parts → Row → Bool
has_arrived spec row = is_settled spec row.mode row.frame && runs spec row.acts (target row.mode)

-- The state after the frame of a row, given the state before it.
abbrev pub step_with : Parts → (ℕ → Bool) → State → Row → State
step_with spec commits state row = record {
  mode = row.mode;
  arrived = has_arrived spec row;
  areas = row.areas;
  keepers = keepers_in spec commits state (phase_at spec row.mode row.frame);
  world = row.world;
}

-- The state after frame `f`, given its environment, whether each processor commits, and the state before the frame.
abbrev pub step : Parts → ℕ → Env → (ℕ → Bool) → State → State
step spec f v commits state = step_with spec commits state (row_of spec f v commits state)

-- The start area of application `a`, given its place in the start configuration: the start area of its kind, or zeros
-- if there is no place.
abbrev pub start_area_at : Parts → ℕ → Option Place → List ℤ
start_area_at spec a None = zeros
start_area_at spec a (Some place) = start_of (kind_of_app spec a)

-- The area of application `a` before the first frame.
abbrev pub start_area_of : Parts → ℕ → List ℤ
start_area_of spec a = start_area_at spec a (place_of spec spec.start a)

-- The keeper of the area of application `a` before the first frame: the processor of its place in the start
-- configuration, or `None` if it has no place there.
abbrev pub start_keeper_of : Parts → ℕ → Option ProcId
start_keeper_of spec a = option_map (λ (place : Place). place.proc) (place_of spec spec.start a)

-- The world before the first frame. The units are feet, tenths of a foot per frame, and tenths of a degree.
abbrev pub start_world : World
start_world = record { alt = pos 5000; climb = pos 0; heading = pos 900; bank = pos 0 }

-- The state before the first frame.
abbrev pub start_state : Parts → State
start_state spec = record {
  mode = Stable spec.start;
  arrived = false;
  areas = eight (start_area_of spec);
  keepers = eight (start_keeper_of spec);
  world = start_world;
}
