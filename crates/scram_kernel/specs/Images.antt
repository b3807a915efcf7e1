-- The kernel image of a frame, computed from the system before the frame or from the row of the previous frame.
use Rattle.std.specs.Prelude.{◌+◌, List, Option}
use Rattle.scram_types.specs.Specification.{Parts}
use Rattle.scram_types.specs.declared.rows.Env.{Env}
use Rattle.scram_types.specs.declared.rows.Row.{Row}
use Rattle.scram_types.specs.declared.ids.ProcId.{ProcId}
use Rattle.bank_words.specs.declared.images.KernelImage.{KernelImage}
use Rattle.frame_model.specs.declared.systems.Sys.{Sys}
use Rattle.frame_model.specs.Frames.{state_of, sys_of}
use Rattle.frame_model.specs.States.{State, has_arrived, mode_decided}

-- The kernel image of the frame that a system is about to fly, given the environment of that frame.
abbrev pub image_given : Parts → Sys → Env → KernelImage
image_given spec sys v = record {
  frame = sys.frame;
  mode = mode_decided spec sys.frame v (state_of sys);
  env = v;
  keepers = sys.keepers;
  world = sys.world;
}

-- The state after a row, with the keepers after its frame.
abbrev pub state_left : Parts → Row → List (Option ProcId) → State
state_left spec row keepers = record { mode = row.mode; arrived = has_arrived spec row; areas = row.areas; keepers = keepers; world = row.world }

-- The kernel image of the frame after a row, given the keepers after the row and the environment of that frame. A
-- decision depends on the processors that are up only through the environment. Therefore no processor is up in the
-- system that is passed.
abbrev pub image_next : Parts → Row → List (Option ProcId) → Env → KernelImage
image_next spec row keepers v = image_given spec (sys_of (row.frame + 1) 0 (state_left spec row keepers)) v
