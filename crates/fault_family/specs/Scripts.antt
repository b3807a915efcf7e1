-- The script of a list of faults.
use Rattle.std.specs.Prelude.{ℕ, ◌+◌, Bool, is_none, List, Option, Some, None, filter_map}
use Rattle.std.specs.Option.{option_map_or}
use Rattle.scram_types.specs.declared.scripts.Change.{Change}
use Rattle.scram_types.specs.declared.scripts.HaltAt.{HaltAt}
use Rattle.scram_types.specs.declared.scripts.RestartAt.{RestartAt}
use Rattle.scram_types.specs.Scripts.{ScriptParts}
use Rattle.scram_types.specs.Specification.{Parts}
use Rattle.fault_script.specs.Assumption.{first_outside}
use Rattle.fault_script.specs.Orders.{last_of}
use Rattle.coverage_check.specs.Timing.{greatest_bound}
use Rattle.fault_family.specs.declared.faults.Fault.{Fault}
use Rattle.fault_family.specs.declared.faults.FaultKind.{FaultKind}
use Rattle.fault_family.specs.declared.faults.FaultKind.TheVariants as kind
use Rattle.fault_family.specs.declared.scripts.FaultScript.{FaultScript}

-- The change that a kind of fault makes in a frame, or `None` if the kind is not a change.
abbrev pub change_fault_in : ℕ → FaultKind → Option Change
change_fault_in frame (kind.Change factor value) = Some (record { frame = frame; factor = factor; value = value })
change_fault_in frame (kind.Halt proc step) = None
change_fault_in frame (kind.Restart proc) = None

-- The halt that a kind of fault makes in a frame, or `None` if the kind is not a halt.
abbrev pub halt_fault_in : ℕ → FaultKind → Option HaltAt
halt_fault_in frame (kind.Change factor value) = None
halt_fault_in frame (kind.Halt proc step) = Some (record { proc = proc; frame = frame; step = step })
halt_fault_in frame (kind.Restart proc) = None

-- The restart that a kind of fault makes in a frame, or `None` if the kind is not a restart.
abbrev pub restart_fault_in : ℕ → FaultKind → Option RestartAt
restart_fault_in frame (kind.Change factor value) = None
restart_fault_in frame (kind.Halt proc step) = None
restart_fault_in frame (kind.Restart proc) = Some (record { proc = proc; frame = frame })

-- A fault as a change, or `None` if the fault is not a change.
abbrev pub change_of_fault : Fault → Option Change
change_of_fault fault = change_fault_in fault.frame fault.kind

-- A fault as a halt, or `None` if the fault is not a halt.
abbrev pub halt_of_fault : Fault → Option HaltAt
halt_of_fault fault = halt_fault_in fault.frame fault.kind

-- A fault as a restart, or `None` if the fault is not a restart.
abbrev pub restart_of_fault : Fault → Option RestartAt
restart_of_fault fault = restart_fault_in fault.frame fault.kind

-- The script with a given number of frames and given faults.
abbrev pub script_in_frames : ℕ → List Fault → ScriptParts
script_in_frames frames faults = record {
  frames = frames;
  changes = filter_map change_of_fault faults;
  halts = filter_map halt_of_fault faults;
  restarts = filter_map restart_of_fault faults;
}

-- The frame of the last fault of a list, or 0 if the list is empty.
abbrev pub last_fault_frame : List Fault → ℕ
last_fault_frame faults = option_map_or (λ (fault : Fault). fault.frame) (last_of faults) 0

-- The number of frames in the script of a list of faults. It is the frame of the last fault plus the greatest bound
-- plus three.
abbrev pub frames_of_faults : Parts → List Fault → ℕ
frames_of_faults spec faults = last_fault_frame faults + greatest_bound spec.bounds + 3

-- The script of a list of faults, with `frames_of_faults` frames.
abbrev pub script_of_faults : Parts → List Fault → ScriptParts
script_of_faults spec faults = script_in_frames (frames_of_faults spec faults) faults

-- Whether a script keeps the failure assumption.
abbrev pub is_within : Parts → ScriptParts → Bool
is_within spec script = is_none (first_outside spec script)

-- The script with the frames and the faults of a `FaultScript`.
abbrev pub as_script : FaultScript → ScriptParts
as_script script = script_in_frames script.frames script.faults.now
