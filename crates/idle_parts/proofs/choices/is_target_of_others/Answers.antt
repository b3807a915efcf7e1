use Rattle.std.proofs.Common.{◌∙◌, arith, length, sym}
use Rattle.scram_types.proofs.Searches.{any_below_is}
use Rattle.idle_parts.specs.Choices.{is_target_of_other}
use Rattle.idle_parts.proofs.choices.is_target_of_others.Goals as goal

pub returns-then-is_target_of_other : goal.returns-then-is_target_of_other
returns-then-is_target_of_other c = sym (any_below_is (is_target_of_other c.args.spec.now c.args.c) (length c.args.spec.now.confs) c.loop-i.i
    (sym c.is_target_of_other.ensures ∙ c.if-is_target_of_other.true) (omega (arith, c.loop-i-test.true, c.count_confs-i-end.ensures.value)))
