use Rattle.std.proofs.Common.{◌≡◌, ◌+◌, ◌-◌}
use Rattle.scram_types.specs.Searches.{least_from}
use Rattle.trace_props.specs.Judging.{breaks_at}
use Rattle.trace_props.proofs.kept.first_breach.Given as goal

abbrev pub invariant-loop-frame : goal.invariant-loop-frame
invariant-loop-frame l =
    least_from (breaks_at l.rows l.inv) l.frame (l.fn.read.end + 1 - l.frame)
    ≡ least_from (breaks_at l.rows l.inv) l.fn.read.begin (l.fn.read.end + 1 - l.fn.read.begin)
