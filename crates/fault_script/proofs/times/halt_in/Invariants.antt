use Rattle.std.proofs.Common.{◌≡◌, drop}
use Rattle.std.specs.Prelude.{find}
use Rattle.fault_script.specs.Times.{is_halt_in}
use Rattle.fault_script.proofs.times.halt_in.Given as goal

abbrev pub invariant-loop-halt : goal.invariant-loop-halt
invariant-loop-halt l =
    find (is_halt_in l.proc.0 l.frame) (drop l.halt-index l.halt-items) ≡ find (is_halt_in l.proc.0 l.frame) l.script.halts
