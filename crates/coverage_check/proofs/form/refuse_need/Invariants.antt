use Rattle.std.proofs.Common.{◌≡◌, None}
use Rattle.scram_types.specs.Searches.{first_below}
use Rattle.coverage_check.specs.Form.{need_refusal_in}
use Rattle.coverage_check.proofs.form.refuse_need.Given as goal

abbrev pub invariant-loop-c : goal.invariant-loop-c
invariant-loop-c l = first_below (need_refusal_in l.spec) l.c ≡ None
