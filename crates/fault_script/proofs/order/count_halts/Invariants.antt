use Rattle.std.proofs.Common.{◌≡◌, ◌+◌, ◌≤◌, drop}
use Rattle.fault_script.specs.Orders.{halts_of}
use Rattle.fault_script.proofs.order.count_halts.Given as goal

abbrev pub invariant-loop-halt : goal.invariant-loop-halt
invariant-loop-halt l = (l.count + halts_of l.proc.0 (drop l.halt-index l.halts) ≡ halts_of l.proc.0 l.halts) × (l.count ≤ l.halt-index)
