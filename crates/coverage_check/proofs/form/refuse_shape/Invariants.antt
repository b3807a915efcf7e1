use Rattle.std.proofs.Common.{◌≡◌, None}
use Rattle.scram_types.specs.Searches.{first_below}
use Rattle.coverage_check.specs.Form.{shape_refusal_of}
use Rattle.coverage_check.proofs.form.refuse_shape.Given as goal

abbrev pub invariant-loop-c : goal.invariant-loop-c
invariant-loop-c l = first_below (shape_refusal_of l.spec) l.c ≡ None
