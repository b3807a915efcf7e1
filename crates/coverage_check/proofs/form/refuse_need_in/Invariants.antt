use Rattle.std.proofs.Common.{◌≡◌, None}
use Rattle.scram_types.specs.Searches.{first_below}
use Rattle.scram_types.specs.Lookups.{app_id, conf_id}
use Rattle.coverage_check.specs.Search.{shown_if}
use Rattle.coverage_check.specs.declared.shown.Other.TheVariants as other
use Rattle.coverage_check.specs.Form.{lacks_need}
use Rattle.coverage_check.specs.Showing.{shown_at}
use Rattle.coverage_check.proofs.form.refuse_need_in.Given as goal

abbrev pub invariant-loop-a : goal.invariant-loop-a
invariant-loop-a l = first_below (λ a. shown_if (lacks_need l.spec (conf_id l.c) a) (shown_at 1 l.c (other.App (app_id a)))) l.a ≡ None
