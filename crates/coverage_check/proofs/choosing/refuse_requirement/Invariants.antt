use Rattle.std.proofs.Common.{◌≡◌, None}
use Rattle.scram_types.specs.Searches.{first_below}
use Rattle.coverage_check.specs.Choosing.{requirement_refusal_of}
use Rattle.coverage_check.proofs.choosing.refuse_requirement.Given as goal

abbrev pub invariant-loop-c : goal.invariant-loop-c
invariant-loop-c l = first_below (requirement_refusal_of l.spec l.requirement) l.c ≡ None
