use Rattle.std.proofs.Common.{◌≡◌, ◌+◌, ◌-◌}
use Rattle.scram_types.specs.Searches.{least_from}
use Rattle.trace_props.specs.Judging.{chooses}
use Rattle.trace_props.proofs.targets.first_choice.Given as goal

abbrev pub invariant-loop-frame : goal.invariant-loop-frame
invariant-loop-frame l =
    least_from (chooses l.spec l.rows l.read.from l.to) l.frame (l.read.end + 1 - l.frame)
    ≡ least_from (chooses l.spec l.rows l.read.from l.to) l.read.begin (l.read.end + 1 - l.read.begin)
