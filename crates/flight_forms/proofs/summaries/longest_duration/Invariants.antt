use Rattle.std.proofs.Common.{◌≡◌, drop, max}
use Rattle.flight_forms.specs.Summaries.{longest_duration}
use Rattle.flight_forms.proofs.summaries.longest_duration.Given as goal

abbrev pub invariant-loop-report : goal.invariant-loop-report
invariant-loop-report l = max l.most (longest_duration (drop l.report-index l.reports)) ≡ longest_duration l.reports
