use Rattle.std.proofs.Common.{◌≡◌, ◌∙◌, ap, sym, arith, length}
use Rattle.scram_types.specs.Scripts.{ScriptParts}
use Rattle.scram_types.specs.Searches.{listed_below}
use Rattle.scram_types.proofs.Searches.{length_listed}
use Rattle.frame_model.specs.Flights.{row_at}
use Rattle.frame_model.proofs.Flying.{rows_more, stands_first}
use Rattle.frame_model.proofs.traces.fly_all.Goals as goal

pub loop-frame-init : goal.loop-frame-init
loop-frame-init g c = record {
  rows = c.in_ok-rows.ensures.items;
  before = stands_first c.args.spec.now c.args.script.now c.start-sys.result c.first-walk.result c.start-sys.ensures c.first-walk.ensures;
}

pub loop-frame-preserved : goal.loop-frame-preserved
loop-frame-preserved g c =
    let at = c.loop-frame.invariant.before.frame in
    record {
      rows = rows_more (row_at c.args.spec.now c.args.script.now) c.loop-frame._frame c.loop-frame.sys.frame c.loop-frame.rows.items c.push.new.self.items c.fly.result
          c.loop-frame.invariant.rows c.in_ok-push.ensures.items c.fly.ensures.row at;
      before = rw (sym at) c.fly.ensures.after;
    }

pub fly-requires-clause-frame : goal.fly-requires-clause-frame
fly-requires-clause-frame g c =
    let at = c.loop-frame.invariant.before.frame in
    let whole = ap (λ (s : ScriptParts). s.frames) c.script.view_is in
    omega arith

pub returns-clause-rows : goal.returns-clause-rows
returns-clause-rows g c =
    let whole = ap (λ (s : ScriptParts). s.frames) c.script.view_is in
    let last : c.loop-frame._frame ≡ c.args.script.now.frames = omega arith in
    c.loop-frame.invariant.rows ∙ ap (listed_below (row_at c.args.spec.now c.args.script.now)) last

pub returns-clause-count : goal.returns-clause-count
returns-clause-count g c =
    let whole = ap (λ (s : ScriptParts). s.frames) c.script.view_is in
    let count = length_listed (row_at c.args.spec.now c.args.script.now) c.loop-frame._frame in
    ap length c.loop-frame.invariant.rows ∙ omega (arith, count)
