use Rattle.std.proofs.Common.{◌≡◌, false}
use Rattle.scram_types.specs.Searches.{any_below}
use Rattle.idle_parts.specs.Choices.{is_first_from}
use Rattle.idle_parts.proofs.choices.is_rule_first.Given as goal

abbrev pub invariant-loop-i : goal.invariant-loop-i
invariant-loop-i l = any_below (is_first_from l.spec l.k) l.i ≡ false
