use Rattle.std.proofs.Common.{◌≡◌, drop, map}
use Rattle.document_explanations.specs.Rules.{rule_in, plain_rule}
use Rattle.document_explanations.proofs.rules.rule_in.Given as goal

abbrev pub invariant-loop-rule : goal.invariant-loop-rule
invariant-loop-rule l = rule_in (map plain_rule (drop l.rule-index l.rules)) l.number ≡ rule_in (map plain_rule l.fn.rules) l.number
