use Rattle.std.proofs.Common.{◌≡◌, ◌+◌, ◌-◌}
use Rattle.scram_types.specs.Searches.{least_from}
use Rattle.trace_props.specs.Judging.{changes_in}
use Rattle.trace_props.proofs.causes.first_change.Given as goal

abbrev pub invariant-loop-frame : goal.invariant-loop-frame
invariant-loop-frame l =
    least_from (changes_in l.spec l.rows) l.frame (l.fn.read.end + 1 - l.frame)
    ≡ least_from (changes_in l.spec l.rows) (l.fn.read.begin + 1) (l.fn.read.end + 1 - (l.fn.read.begin + 1))
