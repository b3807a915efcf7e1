use Rattle.std.proofs.Common.{◌≡◌, [], drop, take}
use Rattle.fault_script.specs.Reading.{check_halts}
use Rattle.fault_script.proofs.reading.check_halts.Given as goal

abbrev pub invariant-loop-i : goal.invariant-loop-i
invariant-loop-i l =
    check_halts l.restarts l.at l.i (take l.i l.halts) (drop l.i l.halts) ≡ check_halts l.restarts l.at 0 [] l.halts
