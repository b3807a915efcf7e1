-- The faults that may come next in a script, in order.
use Rattle.std.specs.Prelude.{ℕ, ◌+◌, List, [], ◌∷◌, ◌++◌, map, length, slice_get, flat_map, Option, Some, None}
use Rattle.std.specs.Option.{option_map_or}
use Rattle.scram_types.specs.declared.specification.Factor.{Factor}
use Rattle.scram_types.specs.Lookups.{factor_id, proc_id}
use Rattle.scram_types.specs.Searches.{listed_below}
use Rattle.scram_types.specs.Specification.{Parts}
use Rattle.fault_script.specs.Orders.{last_of}
use Rattle.fault_script.specs.Times.{words}
use Rattle.coverage_check.specs.Timing.{greatest_bound}
use Rattle.fault_family.specs.declared.faults.Fault.{Fault}
use Rattle.fault_family.specs.declared.faults.FaultKind.{FaultKind}
use Rattle.fault_family.specs.declared.faults.FaultKind.TheVariants.{Change, Halt, Restart}

-- The numbers below `n`, in order.
abbrev pub numbers_below : ℕ → List ℕ
numbers_below n = listed_below (λ k. k) n

-- The number of values of factor `x`, or 0 if there is no such factor.
abbrev pub factor_value_count : Parts → ℕ → ℕ
factor_value_count spec x = option_map_or (λ (factor : Factor). length factor.values) (slice_get spec.factors x) 0

-- The changes of factor `x`, in the order of its values.
abbrev pub factor_changes : Parts → ℕ → List FaultKind
factor_changes spec x = listed_below (λ value. Change (factor_id x) value) (factor_value_count spec x)

-- The halts of processor `p`: the halt before all stores, and the halt after the mark.
abbrev pub proc_halts : Parts → ℕ → List FaultKind
proc_halts spec p = Halt (proc_id p) 0 ∷ Halt (proc_id p) (words spec + 1) ∷ []

-- The restarts of all processors, in order.
abbrev pub restarts_of : Parts → List FaultKind
restarts_of spec = listed_below (λ p. Restart (proc_id p)) (length spec.procs)

-- The kinds of fault of a specification, in order. Changes are ordered by factor, halts and restarts by processor.
abbrev pub kinds_of : Parts → List FaultKind
kinds_of spec =
    flat_map (factor_changes spec) (numbers_below (length spec.factors))
    ++ flat_map (proc_halts spec) (numbers_below (length spec.procs))
    ++ restarts_of spec

-- The numbers of frames by which a fault may come after the previous one: the numbers from 0 to the greatest bound
-- plus one, and the window plus one.
abbrev pub gaps : Parts → List ℕ
gaps spec = numbers_below (greatest_bound spec.bounds + 2) ++ (spec.window + 1) ∷ []

-- The frames in which a fault may come after an optional last fault. Without a last fault the only frame is frame 1.
abbrev pub frames_allowed_after : Parts → Option Fault → List ℕ
frames_allowed_after spec None = 1 ∷ []
frames_allowed_after spec (Some last) = map (λ gap. last.frame + gap) (gaps spec)

-- The frames in which a fault may come after a list of faults. If the list is empty, the only frame is frame 1.
abbrev pub frames_after : Parts → List Fault → List ℕ
frames_after spec before = frames_allowed_after spec (last_of before)

-- The faults in a frame, one for each kind, in order.
abbrev pub faults_in : Parts → ℕ → List Fault
faults_in spec frame = map (λ (kind : FaultKind). record { frame = frame; kind = kind }) (kinds_of spec)

-- The candidates for the next fault after a list of faults: a fault of each kind for each frame in which a fault may
-- come, listed frame by frame.
abbrev pub candidates : Parts → List Fault → List Fault
candidates spec before = flat_map (faults_in spec) (frames_after spec before)
