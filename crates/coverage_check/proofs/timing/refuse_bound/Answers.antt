use Rattle.std.proofs.Common.{◌∙◌, arith, length, sym}
use Rattle.scram_types.proofs.Searches.{first_is}
use Rattle.coverage_check.specs.Timing.{bound_refusal_of}
use Rattle.coverage_check.proofs.Reaching.{covered}
use Rattle.coverage_check.proofs.timing.refuse_bound.Goals as goal

pub returns-then-is_some : goal.returns-then-is_some
returns-then-is_some c = first_is (bound_refusal_of c.args.spec.now) (length c.args.spec.now.confs) c.loop-i.i c.refuse_bound_of-shown.result c.loop-i.invariant c.refuse_bound_of-shown.ensures
    (sym c.is_some.ensures ∙ c.if-is_some.true) (omega arith)

pub refuse_bound_of-shown-requires : goal.refuse_bound_of-shown-requires
refuse_bound_of-shown-requires c =
    let wide = c.told-covers in
    let count = c.count_confs-i-end.ensures in
    covered c.args.spec.now c.args.covers.now c.loop-i.i c.from.result _ c.from.ensures c.requires (omega arith) (omega arith)
