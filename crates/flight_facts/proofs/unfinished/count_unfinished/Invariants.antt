use Rattle.std.proofs.Common.{◌≡◌, ◌+◌, drop}
use Rattle.flight_facts.specs.Unfinished.{count_unfinished}
use Rattle.flight_facts.proofs.unfinished.count_unfinished.Given as goal

abbrev pub invariant-loop-report : goal.invariant-loop-report
invariant-loop-report l = l.count + count_unfinished (drop l.report-index l.reports) ≡ count_unfinished l.reports
