-- The effect of a frame on a system, given the frame's input.
use Rattle.std.specs.Prelude.{ℕ, suc, Bool, bit_and, bit_or}
use Rattle.std.specs.Int.{bit_not, w8}
use Rattle.scram_types.specs.declared.rows.Env.{Env}
use Rattle.scram_types.specs.declared.rows.Row.{Row}
use Rattle.scram_types.specs.Specification.{Parts}
use Rattle.scram_types.specs.Bits.{has_bit}
use Rattle.fault_script.specs.declared.inputs.Input.{Input}
use Rattle.frame_model.specs.declared.systems.Sys.{Sys}
use Rattle.frame_model.specs.States.{State, row_of, step}

-- The state of a system: all its fields except the frame and the processors that are up.
abbrev pub state_of : Sys → State
state_of sys = record { mode = sys.mode; arrived = sys.settled; areas = sys.areas; keepers = sys.keepers; world = sys.world }

-- The environment of the frame that a system flies with an input. A processor that restarts in the frame is up.
abbrev pub frame_env : Sys → Input → Env
frame_env sys input = record { up = bit_or sys.up input.back; factors = input.factors }

-- The processors that commit the frame, as bits: those that are up and do not halt before their mark.
abbrev pub committing : Sys → Input → ℕ
committing sys input = bit_and (frame_env sys input).up (bit_not w8 input.early)

-- Whether processor `p` commits the frame.
abbrev pub commits_in : Sys → Input → ℕ → Bool
commits_in sys input p = has_bit (committing sys input) p

-- The processors that are up at the end of the frame, as bits: those that are up in the frame and do not halt in it,
-- before or after their mark.
abbrev pub up_after : Sys → Input → ℕ
up_after sys input = bit_and (frame_env sys input).up (bit_not w8 (bit_or input.early input.late))

-- The row of the frame that a system flies with an input.
abbrev pub row_given : Parts → Sys → Input → Row
row_given spec sys input = row_of spec sys.frame (frame_env sys input) (commits_in sys input) (state_of sys)

-- The state after the frame that a system flies with an input.
abbrev pub state_given : Parts → Sys → Input → State
state_given spec sys input = step spec sys.frame (frame_env sys input) (commits_in sys input) (state_of sys)

-- The system before frame `f`, given the processors that are up, as bits, and the state.
abbrev pub sys_of : ℕ → ℕ → State → Sys
sys_of f up state = record {
  frame = f;
  mode = state.mode;
  areas = state.areas;
  keepers = state.keepers;
  world = state.world;
  up = up;
  settled = state.arrived;
}

-- The system after the frame that it flies with an input.
abbrev pub sys_after : Parts → Sys → Input → Sys
sys_after spec sys input = sys_of (suc sys.frame) (up_after sys input) (state_given spec sys input)
