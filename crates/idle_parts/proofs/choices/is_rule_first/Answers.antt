use Rattle.std.proofs.Common.{rules, ◌∙◌, arith, length, sym}
use Rattle.scram_types.proofs.Searches.{any_below_is}
use Rattle.idle_parts.specs.Choices.{is_first_from}
use Rattle.idle_parts.proofs.choices.is_rule_first.Goals as goal

pub returns-then-is_first_from : goal.returns-then-is_first_from
returns-then-is_first_from c = sym (any_below_is (is_first_from c.args.spec.now c.args.k) (length c.args.spec.now.confs) c.loop-i.i
    (sym c.is_first_from.ensures ∙ c.if-is_first_from.true) (omega (arith, c.loop-i-test.true, c.count_confs-i-end.ensures.value)))

pub loop-i-preserved : goal.loop-i-preserved
loop-i-preserved c = search rules
