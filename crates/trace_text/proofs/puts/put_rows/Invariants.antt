use Rattle.std.proofs.Common.{◌≡◌, ℕ, ◌++◌, List, drop}
use Rattle.trace_text.specs.Text.{rows_text}
use Rattle.scram_io.specs.Outside.{Printed}
use Rattle.trace_text.proofs.puts.put_rows.Given as goal

abbrev pub invariant-loop-row : goal.invariant-loop-row
invariant-loop-row g l =
    (front : List ℕ)
    × (rows_text l.spec l.rows ≡ front ++ rows_text l.spec (drop l.row-index l.rows))
    × Printed (g.K.Sink.state l.initial.out) (g.K.Sink.state l.out) front
