use Rattle.std.proofs.Common.{◌≡◌, None}
use Rattle.scram_types.specs.Searches.{first_below}
use Rattle.scram_types.specs.Lookups.{conf_id}
use Rattle.coverage_check.specs.Search.{shown_if}
use Rattle.coverage_check.specs.declared.shown.Other.TheVariants as other
use Rattle.coverage_check.specs.Form.{is_same}
use Rattle.coverage_check.specs.Showing.{shown_at}
use Rattle.coverage_check.proofs.form.refuse_twin_of.Given as goal

abbrev pub invariant-loop-d : goal.invariant-loop-d
invariant-loop-d l = first_below (λ d. shown_if (is_same l.spec (conf_id l.c) (conf_id d)) (shown_at 3 l.c (other.Conf (conf_id d)))) l.d ≡ None
