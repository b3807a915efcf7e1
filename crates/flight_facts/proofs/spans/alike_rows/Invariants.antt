use Rattle.std.proofs.Common.{◌≡◌, ◌+◌, ◌≤◌, drop}
use Rattle.flight_facts.specs.Spans.{alike_rows}
use Rattle.flight_facts.proofs.spans.alike_rows.Given as goal

abbrev pub invariant-loop-next : goal.invariant-loop-next
invariant-loop-next l = record {
  rest : l.count + alike_rows l.lane l.row (drop l.next-index l.rows) ≡ alike_rows l.lane l.row l.rows;
  most : l.count ≤ l.next-index;
}
