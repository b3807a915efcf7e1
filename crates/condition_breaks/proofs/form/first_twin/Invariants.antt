use Rattle.std.proofs.Common.{◌≡◌, None}
use Rattle.scram_types.specs.Lookups.{conf_id}
use Rattle.scram_types.specs.Searches.{first_below}
use Rattle.coverage_check.specs.Form.{is_same}
use Rattle.coverage_check.specs.Search.{shown_if}
use Rattle.condition_breaks.proofs.form.first_twin.Given as goal

abbrev pub invariant-loop-d : goal.invariant-loop-d
invariant-loop-d l = first_below (λ d. shown_if (is_same l.spec (conf_id l.c) (conf_id d)) (conf_id d)) l.d ≡ None
