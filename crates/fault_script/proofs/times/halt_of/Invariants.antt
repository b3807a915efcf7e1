use Rattle.std.proofs.Common.{◌≡◌, drop}
use Rattle.std.specs.Prelude.{find}
use Rattle.fault_script.specs.Times.{is_halt_of}
use Rattle.fault_script.proofs.times.halt_of.Given as goal

abbrev pub invariant-loop-halt : goal.invariant-loop-halt
invariant-loop-halt l = find (is_halt_of l.proc.0) (drop l.halt-index l.halt-items) ≡ find (is_halt_of l.proc.0) l.script.halts
