use Rattle.std.proofs.Common.{ap, arith, length}
use Rattle.form_base.proofs.Endings.{answered_prints, put_taken}
use Rattle.flight_forms.specs.Texts.{flight_text}
use Rattle.flight_forms.proofs.FlightSizes.{few_reports_flown, few_rows_flown}
use Rattle.flight_forms.proofs.runs.print_flight.Goals as goal

pub put_flown-requires-clause-rows : goal.put_flown-requires-clause-rows
put_flown-requires-clause-rows g c =
    let few = few_rows_flown c.args.mission.now.spec c.args.mission.now.script c.holds.ensures.mission.fits in
    let same = ap length c.requires.rows in
    omega arith

pub put_flown-requires-clause-reports : goal.put_flown-requires-clause-reports
put_flown-requires-clause-reports g c =
    let few = few_reports_flown c.args.mission.now.spec c.args.mission.now.script c.holds.ensures.mission.fits in
    let same = ap length c.requires.reports in
    omega arith

pub returns : goal.returns
returns g c =
    rw (c.status_after.ensures)
    (answered_prints (flight_text c.args.told c.args.mission.now) _ _ _
    (put_taken c.put_flown.result 0 _ _ _ (rw (c.spec.ensures, c.requires.rows, c.requires.reports) at c.put_flown.ensures)))
