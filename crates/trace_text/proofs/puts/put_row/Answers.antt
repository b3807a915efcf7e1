use Rattle.std.proofs.Common.{rules, ◌≡◌}
use Rattle.trace_text.specs.Text.{row_line, app_lines}
use Rattle.scram_io.proofs.Puts.{prints_more, cut_more}
use Rattle.trace_text.proofs.puts.put_row.Goals as goal

pub returns-in-Ok : goal.returns-in-Ok
returns-in-Ok g c =
    let line : c.make_row_line.result ≡ row_line c.args.spec.now c.args.row.now = search rules in
    prints_more c.put_apps.result _ _ _ (row_line c.args.spec.now c.args.row.now)
    (app_lines c.args.spec.now c.args.row.now c.args.spec.now.apps 0) (rw line at c.in-Ok.ensures) c.put_apps.ensures

pub returns-in-Err : goal.returns-in-Err
returns-in-Err g c =
    let line : c.make_row_line.result ≡ row_line c.args.spec.now c.args.row.now = search rules in
    cut_more _ _ (row_line c.args.spec.now c.args.row.now)
    (app_lines c.args.spec.now c.args.row.now c.args.spec.now.apps 0) (rw line at c.in-Err.ensures)
