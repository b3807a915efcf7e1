use Rattle.std.proofs.Common.{◌≡◌, ℕ, ◌++◌, List, drop}
use Rattle.trace_text.specs.Text.{reports_text}
use Rattle.scram_io.specs.Outside.{Printed}
use Rattle.trace_text.proofs.puts.put_reports.Given as goal

abbrev pub invariant-loop-report : goal.invariant-loop-report
invariant-loop-report g l =
    (front : List ℕ)
    × (reports_text l.spec l.reports ≡ front ++ reports_text l.spec (drop l.report-index l.reports))
    × Printed (g.K.Sink.state l.initial.out) (g.K.Sink.state l.out) front
