use Rattle.std.proofs.Common.{◌≡◌, None}
use Rattle.scram_types.specs.Searches.{first_below}
use Rattle.scram_types.specs.Lookups.{proc_id, conf_id}
use Rattle.coverage_check.specs.Search.{shown_if}
use Rattle.coverage_check.specs.declared.shown.Other.TheVariants as other
use Rattle.coverage_check.specs.Form.{is_overloaded}
use Rattle.coverage_check.specs.Showing.{shown_at}
use Rattle.coverage_check.proofs.form.refuse_load_in.Given as goal

abbrev pub invariant-loop-p : goal.invariant-loop-p
invariant-loop-p l = first_below (λ p. shown_if (is_overloaded l.spec (conf_id l.c) p) (shown_at 4 l.c (other.Proc (proc_id p)))) l.p ≡ None
