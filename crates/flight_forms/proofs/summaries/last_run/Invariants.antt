use Rattle.std.proofs.Common.{◌≡◌, drop}
use Rattle.flight_forms.specs.Summaries.{last_run, last_run_from}
use Rattle.flight_forms.proofs.summaries.last_run.Given as goal

abbrev pub invariant-loop-row : goal.invariant-loop-row
invariant-loop-row l = last_run_from l.spec l.last (drop l.row-index l.rows) ≡ last_run l.spec l.rows
