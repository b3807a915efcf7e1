use Rattle.std.proofs.Common.{◌≡◌, drop}
use Rattle.std.specs.List.{list_all}
use Rattle.fault_script.specs.Times.{is_over}
use Rattle.fault_script.proofs.times.are_halts_over.Given as goal

abbrev pub invariant-loop-halt : goal.invariant-loop-halt
invariant-loop-halt l =
    list_all (is_over l.script l.proc.0 l.frame) (drop l.halt-index l.halt-items) ≡ list_all (is_over l.script l.proc.0 l.frame) l.script.halts
