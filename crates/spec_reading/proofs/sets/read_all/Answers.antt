use Rattle.std.proofs.Common.{sym}
use Rattle.serde_json.specs.View.{items_view}
use Rattle.scram_doc.specs.Lists.{folded_from}
use Rattle.scram_doc.proofs.Growing.{step_made}
use Rattle.spec_reading.specs.Sets.{read_into}
use Rattle.spec_reading.proofs.Loops.{step_failed, steps_done}
use Rattle.spec_reading.proofs.sets.read_all.Goals as goal

pub loop-i-preserved : goal.loop-i-preserved
loop-i-preserved g c =
    let step = read_into g.N.Naming.spelling c.args.items.now c.args.refused.unknown c.args.refused.barred in
    let at = c.args.at.now in
    let values = c.args.values.now in
    let value = sym (rw (c.item.ensures.path) at c.in_ok-set.ensures.value) in
    record {
      value = step_made step at c.loop-i.i c.loop-i.set values c.index-values-i.result c.in_ok-set.set (folded_from step at 0 0 (items_view values))
          c.loop-i-test.true c.index-values-i.is value c.loop-i.invariant.value;
      below = c.in_ok-set.ensures.below;
      apart = c.in_ok-set.ensures.apart;
    }

pub returns-clause-value : goal.returns-clause-value
returns-clause-value g c =
    let step = read_into g.N.Naming.spelling c.args.items.now c.args.refused.unknown c.args.refused.barred in
    let at = c.args.at.now in
    let values = c.args.values.now in
    steps_done step at c.loop-i.i c.loop-i.set values (folded_from step at 0 0 (items_view values)) c.loop-i-test.false c.loop-i.invariant.value

pub returns-in_err-set-clause-value : goal.returns-in_err-set-clause-value
returns-in_err-set-clause-value g c =
    let step = read_into g.N.Naming.spelling c.args.items.now c.args.refused.unknown c.args.refused.barred in
    let at = c.args.at.now in
    let values = c.args.values.now in
    let fails = rw (c.item.ensures.path) at c.in_err-set.ensures.value in
    let whole = folded_from step at 0 0 (items_view values) in
    step_failed step at c.loop-i.i c.loop-i.set values c.index-values-i.result c.in_err-set.field-0.0 c.from_residual.result whole
    c.loop-i-test.true c.index-values-i.is fails c.from_residual.ensures.1 c.loop-i.invariant.value
