use Rattle.std.proofs.Common.{◌≡◌, None}
use Rattle.scram_types.specs.Searches.{first_below}
use Rattle.scram_types.specs.Lookups.{conf_id}
use Rattle.coverage_check.specs.Search.{shown_if}
use Rattle.coverage_check.specs.declared.shown.Other.TheVariants as other
use Rattle.coverage_check.specs.Timing.{least}
use Rattle.coverage_check.specs.Showing.{shown_at}
use Rattle.fill_form.specs.Refusing.{asks_too_long}
use Rattle.fill_form.proofs.refusing.refuse_long_of.Given as goal

abbrev pub invariant-loop-j : goal.invariant-loop-j
invariant-loop-j l = first_below (λ j. shown_if (asks_too_long l.spec l.i j) (shown_at 9 l.i (other.Least (conf_id j) (least l.spec (conf_id l.i) (conf_id j))))) l.j ≡ None
