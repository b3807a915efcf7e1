use Rattle.std.proofs.Common.{◌∙◌, arith, length-set}
use Rattle.coverage_check.proofs.Reaching.{covers_more}
use Rattle.coverage_check.proofs.target_sets.find_covers.Goals as goal

pub loop-i-preserved : goal.loop-i-preserved
loop-i-preserved c =
    let wide = c.loop-i.invariant.width in
    let few = c.count_confs-i-end.ensures.most in
    record {
      width = length-set c.loop-i.covers c.from.result c.in_ok-covers.field-0 ∙ wide;
      found = covers_more c.args.spec.now c.loop-i.covers c.loop-i.i c.from.result c.in_ok-covers.field-0 c.from.ensures (omega arith) c.in_ok-covers.ensures c.loop-i.invariant.found;
    }

pub returns : goal.returns
returns c = λ k cover low there. c.loop-i.invariant.found k cover (let same = c.count_confs-i-end.ensures.value in omega arith) there
