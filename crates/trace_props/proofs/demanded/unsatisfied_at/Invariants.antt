use Rattle.std.proofs.Common.{◌≡◌, ◌-◌, length}
use Rattle.scram_types.specs.Searches.{least_from}
use Rattle.trace_props.specs.Judging.{breaks_calm, unsatisfied_at}
use Rattle.trace_props.proofs.HeldSteps.{held_before}
use Rattle.trace_props.proofs.demanded.unsatisfied_at.Given as goal

abbrev pub invariant-loop-frame : goal.invariant-loop-frame
invariant-loop-frame l = record {
  held : l.since ≡ held_before l.rows l.frame;
  judged : least_from (breaks_calm l.spec l.rows) l.frame (length l.rows - l.frame) ≡ unsatisfied_at l.spec l.rows;
}
