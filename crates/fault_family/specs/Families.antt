-- The family of fault scripts of a specification.
use Rattle.std.specs.Prelude.{ℕ, zero, suc, ◌-◌, Bool, true, not, ◌&&◌, ◌==◌, List, [], ◌∷◌, ◌++◌, flat_map, if◌then◌else◌}
use Rattle.std.specs.List.{list_all, list_any}
use Rattle.scram_types.specs.Scripts.{ScriptParts}
use Rattle.scram_types.specs.Specification.{Parts}
use Rattle.fault_script.specs.Orders.{is_halt_before}
use Rattle.fault_script.specs.Times.{factor_at}
use Rattle.fault_family.specs.declared.faults.Fault.{Fault}
use Rattle.fault_family.specs.declared.faults.FaultKind.{FaultKind}
use Rattle.fault_family.specs.declared.faults.FaultKind.TheVariants.{Change, Halt, Restart}
use Rattle.fault_family.specs.NextFaults.{candidates}
use Rattle.fault_family.specs.Faults.{may_come_after}
use Rattle.fault_family.specs.Scripts.{is_within, script_of_faults}

-- Whether a fault of the given kind in frame `frame` makes a difference to a script. A change makes a difference if
-- the factor has another value in the previous frame. A halt always makes a difference. A restart makes a difference
-- if the processor halts at least two frames earlier.
abbrev pub differs_in : ScriptParts → ℕ → FaultKind → Bool
differs_in script frame (Change factor value) = not (factor_at script factor.0 (frame - 1) == value)
differs_in script frame (Halt proc step) = true
differs_in script frame (Restart proc) = list_any (is_halt_before proc.0 frame) script.halts

-- Whether a fault may follow a list of faults: the fault may come after each of them, and it makes a difference to
-- the script of the list.
abbrev pub may_follow : Parts → List Fault → Fault → Bool
may_follow spec before fault = list_all (may_come_after fault) before && differs_in (script_of_faults spec before) fault.frame fault.kind

-- The lists that continue the given faults by `more` further faults, in order. Each further fault is a candidate that
-- may follow the preceding faults, and the script of each list keeps the failure assumption.
abbrev pub extended : Parts → ℕ → List Fault → List (List Fault)
extended spec zero before = if is_within spec (script_of_faults spec before) then before ∷ [] else []
extended spec (suc more) before =
    flat_map (λ (fault : Fault). if may_follow spec before fault then extended spec more (before ++ fault ∷ []) else []) (candidates spec before)

-- The family of the lists of `count` faults, in order. Each fault is a candidate that may follow the preceding
-- faults, and the script of each list keeps the failure assumption.
abbrev pub family : Parts → ℕ → List (List Fault)
family spec count = extended spec count []
