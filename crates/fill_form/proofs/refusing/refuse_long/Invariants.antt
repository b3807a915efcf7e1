use Rattle.std.proofs.Common.{◌≡◌, None}
use Rattle.scram_types.specs.Searches.{first_below}
use Rattle.fill_form.specs.Refusing.{long_refusal_of}
use Rattle.fill_form.proofs.refusing.refuse_long.Given as goal

abbrev pub invariant-loop-i : goal.invariant-loop-i
invariant-loop-i l = first_below (long_refusal_of l.spec) l.i ≡ None
