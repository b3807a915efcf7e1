use Rattle.std.proofs.Common.{◌≡◌, ◌∙◌, ap, arith, suc, sym, Some, None}
use Rattle.scram_types.specs.Scripts.{ScriptParts}
use Rattle.scram_types.proofs.Searches.{first_found, none_more}
use Rattle.fault_script.specs.Assumption.{outside_at}
use Rattle.fault_script.proofs.Assuming.{outside_end}
use Rattle.fault_script.proofs.assumption.within.Goals as goal

pub returns-in-Some-clause-outside : goal.returns-in-Some-clause-outside
returns-in-Some-clause-outside c =
    let same : c.script.inside.frames ≡ c.args.script.now.frames = ap (λ (s : ScriptParts). s.frames) c.script.view_is in
    first_found (outside_at c.args.spec.now c.args.script.now) (suc c.args.script.now.frames) c.loop-frame.frame c.in-Some.outside
    c.loop-frame.invariant.inside (sym c.in-Some.ensures) (omega arith)

pub loop-frame-preserved : goal.loop-frame-preserved
loop-frame-preserved c = record {
  window = c.next_window-window.ensures;
  inside = none_more (outside_at c.args.spec.now c.args.script.now) c.loop-frame.frame c.loop-frame.invariant.inside (sym c.in_default.ensures);
}

pub returns-in-Some-outside_at-clause-outside : goal.returns-in-Some-outside_at-clause-outside
returns-in-Some-outside_at-clause-outside c =
    let same : c.script.inside.frames ≡ c.args.script.now.frames = ap (λ (s : ScriptParts). s.frames) c.script.view_is in
    outside_end c.args.spec.now c.args.script.now c.loop-frame.frame (Some c.in-Some-outside_at.outside) (omega arith) c.loop-frame.invariant.inside
    (ap (outside_at c.args.spec.now c.args.script.now) (sym same) ∙ sym c.in-Some-outside_at.ensures)

pub returns-in-None-clause-within : goal.returns-in-None-clause-within
returns-in-None-clause-within c =
    let same : c.script.inside.frames ≡ c.args.script.now.frames = ap (λ (s : ScriptParts). s.frames) c.script.view_is in
    outside_end c.args.spec.now c.args.script.now c.loop-frame.frame None (omega arith) c.loop-frame.invariant.inside
    (ap (outside_at c.args.spec.now c.args.script.now) (sym same) ∙ sym c.in-None.ensures)
