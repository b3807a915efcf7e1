use Rattle.std.proofs.Common.{◌≡◌, false}
use Rattle.scram_types.specs.Searches.{any_below}
use Rattle.idle_parts.specs.Choices.{is_target_of_other}
use Rattle.idle_parts.proofs.choices.is_target_of_others.Given as goal

abbrev pub invariant-loop-i : goal.invariant-loop-i
invariant-loop-i l = any_below (is_target_of_other l.spec l.c) l.i ≡ false
