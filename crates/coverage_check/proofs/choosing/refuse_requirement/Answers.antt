use Rattle.std.proofs.Common.{◌∙◌, arith, length, sym}
use Rattle.scram_types.proofs.Searches.{first_is}
use Rattle.coverage_check.specs.Choosing.{requirement_refusal_of}
use Rattle.coverage_check.proofs.Reaching.{covered}
use Rattle.coverage_check.proofs.choosing.refuse_requirement.Goals as goal

pub returns-then-is_some : goal.returns-then-is_some
returns-then-is_some c = first_is (requirement_refusal_of c.args.spec.now c.args.requirement) (length c.args.spec.now.confs) c.loop-c.c c.refuse_requirement_of-shown.result c.loop-c.invariant c.refuse_requirement_of-shown.ensures
    (sym c.is_some.ensures ∙ c.if-is_some.true) (omega arith)

pub refuse_requirement_of-shown-requires-clause-cover : goal.refuse_requirement_of-shown-requires-clause-cover
refuse_requirement_of-shown-requires-clause-cover c =
    let wide = c.told-covers in
    let count = c.count_confs-c-end.ensures in
    covered c.args.spec.now c.args.covers.now c.loop-c.c c.from.result _ c.from.ensures c.requires (omega arith) (omega arith)
