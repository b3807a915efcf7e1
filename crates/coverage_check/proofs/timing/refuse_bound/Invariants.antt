use Rattle.std.proofs.Common.{◌≡◌, None}
use Rattle.scram_types.specs.Searches.{first_below}
use Rattle.coverage_check.specs.Timing.{bound_refusal_of}
use Rattle.coverage_check.proofs.timing.refuse_bound.Given as goal

abbrev pub invariant-loop-i : goal.invariant-loop-i
invariant-loop-i l = first_below (bound_refusal_of l.spec) l.i ≡ None
