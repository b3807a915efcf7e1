-- Faults and their order.
use Rattle.std.specs.Prelude.{ℕ, Bool, not, ◌&&◌, ◌||◌, ◌==◌}
use Rattle.fault_script.specs.Orders.{comes_after}
use Rattle.fault_family.specs.declared.faults.Fault.{Fault}
use Rattle.fault_family.specs.declared.faults.FaultKind.{FaultKind}
use Rattle.fault_family.specs.declared.faults.FaultKind.TheVariants.{Change, Halt, Restart}

-- The rank of a kind of fault: changes come before halts, and halts before restarts.
abbrev pub rank : FaultKind → ℕ
rank (Change factor value) = 0
rank (Halt proc step) = 1
rank (Restart proc) = 2

-- The number of the factor that a fault changes, or of the processor that halts or restarts.
abbrev pub subject : FaultKind → ℕ
subject (Change factor value) = factor.0
subject (Halt proc step) = proc.0
subject (Restart proc) = proc.0

-- The number of the value to which a factor changes, the step after which a processor halts, or 0 for a restart.
abbrev pub detail : FaultKind → ℕ
detail (Change factor value) = value
detail (Halt proc step) = step
detail (Restart proc) = 0

-- Whether `fault` comes before `next`. The order is by frame, then by kind. In one frame, changes are ordered by
-- factor and then by value, halts by processor and then by step, and restarts by processor.
abbrev pub precedes : Fault → Fault → Bool
precedes fault next =
    comes_after fault.frame (rank fault.kind) next.frame (rank next.kind)
    || (fault.frame == next.frame && rank fault.kind == rank next.kind
    && comes_after (subject fault.kind) (detail fault.kind) (subject next.kind) (detail next.kind))

-- Whether two faults are changes of one factor in one frame, halts of one processor, or restarts of one processor.
abbrev pub repeats : Fault → Fault → Bool
repeats fault next =
    rank fault.kind == rank next.kind && subject fault.kind == subject next.kind && (not (rank fault.kind == 0) || fault.frame == next.frame)

-- Whether the first fault may come after the second: the first comes later in the order and does not repeat the second.
abbrev pub may_come_after : Fault → Fault → Bool
may_come_after next fault = precedes fault next && not (repeats fault next)
