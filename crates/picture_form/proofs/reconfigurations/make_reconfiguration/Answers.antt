use Rattle.std.proofs.Common.{sym}
use Rattle.scram_types.proofs.Naturals.{below_test, not_below, not_below_test}
use Rattle.std.proofs.lemmas.Option.{slice_get_past}
use Rattle.scram_types.proofs.Placed.{read_within}
use Rattle.picture_form.proofs.reconfigurations.make_reconfiguration.Goals as goal

pub returns-then-report-sheet : goal.returns-then-report-sheet
returns-then-report-sheet c =
    let there = read_within c.args.reports.now c.args.n c.in-Some.report.now c.in-Some.ensures.lookup.0 c.in-Some.ensures.lookup.1 in
    rw (there, below_test _ _ c.if-report-sheet.true) c.make_report.ensures

pub returns-else-report-sheet : goal.returns-else-report-sheet
returns-else-report-sheet c =
    let there = read_within c.args.reports.now c.args.n c.in-Some.report.now c.in-Some.ensures.lookup.0 c.in-Some.ensures.lookup.1 in
    rw (there, not_below_test _ _ c.if-report-sheet.false) c.new.ensures

pub returns-in-None : goal.returns-in-None
returns-in-None c = rw (slice_get_past c.args.reports.now c.args.n (not_below _ _ (sym c.in-None.ensures.lookup.0))) c.new-in-None.ensures
