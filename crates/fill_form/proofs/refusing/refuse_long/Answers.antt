use Rattle.std.proofs.Common.{◌∙◌, arith, length, sym}
use Rattle.scram_types.proofs.Searches.{first_is}
use Rattle.fill_form.specs.Refusing.{long_refusal_of}
use Rattle.fill_form.proofs.refusing.refuse_long.Goals as goal

pub returns-then-is_some : goal.returns-then-is_some
returns-then-is_some c = first_is (long_refusal_of c.args.spec.now) (length c.args.spec.now.confs) c.loop-i.i c.refuse_long_of-shown.result c.loop-i.invariant c.refuse_long_of-shown.ensures
    (sym c.is_some.ensures ∙ c.if-is_some.true) (omega arith)
