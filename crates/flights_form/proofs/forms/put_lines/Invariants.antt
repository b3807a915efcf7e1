use Rattle.std.proofs.Common.{◌≤◌, ◌+◌, length}
use Rattle.flights_form.specs.Printing.{IsFlownTo}
use Rattle.flights_form.proofs.forms.put_lines.Given as goal

abbrev pub invariant-loop-line : goal.invariant-loop-line
invariant-loop-line g l = record {
  flown : IsFlownTo l.spec l.bytes l.rest l.totals (g.K.Sink.state l.initial.out) (g.K.Sink.state l.out);
  lines : l.totals.lines + length l.rest ≤ length l.bytes;
}

abbrev pub decreases-loop-line : goal.decreases-loop-line
decreases-loop-line g l = length l.rest
