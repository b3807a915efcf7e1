use Rattle.std.proofs.Common.{rules, ◌≡◌, ◌<◌, ◌++◌, length, slice_index_or}
use Rattle.trace_text.specs.Text.{app_line_in}
use Rattle.scram_io.proofs.Puts.{printed_more, cut_after, cut_more}
use Rattle.trace_text.proofs.Steps.{apps_more}
use Rattle.trace_text.proofs.puts.put_apps.Goals as goal

pub returns-in-Err : goal.returns-in-Err
returns-in-Err g c =
    let known = c.loop-a.invariant in
    let below : c.loop-a.a < length c.args.spec.now.apps = search rules in
    let item : c.app-item.result ≡ slice_index_or c.args.spec.now.apps c.loop-a.a c.app-item.result = search rules in
    let text = apps_more c.args.spec.now c.args.row.now c.loop-a.a c.app-item.result known.0 below item known.1 in
    rw text (cut_more _ _ (known.0 ++ app_line_in c.args.spec.now c.args.row.now c.app-item.result c.loop-a.a) _
    (cut_after _ _ _ known.0 (app_line_in c.args.spec.now c.args.row.now c.app-item.result c.loop-a.a) known.2 c.in-Err.ensures))

pub loop-a-preserved : goal.loop-a-preserved
loop-a-preserved g c =
    let known = c.loop-a.invariant in
    let below : c.loop-a.a < length c.args.spec.now.apps = search rules in
    let item : c.app-item.result ≡ slice_index_or c.args.spec.now.apps c.loop-a.a c.app-item.result = search rules in
    let text = apps_more c.args.spec.now c.args.row.now c.loop-a.a c.app-item.result known.0 below item known.1 in (
      known.0 ++ app_line_in c.args.spec.now c.args.row.now c.app-item.result c.loop-a.a,
      text,
      printed_more _ _ _ known.0 (app_line_in c.args.spec.now c.args.row.now c.app-item.result c.loop-a.a) known.2 c.in-Ok.ensures,
    )
