use Rattle.std.proofs.Common.{◌≡◌, drop}
use Rattle.choice_table.specs.Choices.{target_among}
use Rattle.choice_table.proofs.choices.choose.Given as goal

abbrev pub invariant-loop-rule : goal.invariant-loop-rule
invariant-loop-rule l = target_among (drop l.rule-index l.rule-items) l.c l.env ≡ target_among l.spec.rules l.c l.env
