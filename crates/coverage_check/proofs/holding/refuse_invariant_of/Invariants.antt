use Rattle.std.proofs.Common.{◌≡◌, None}
use Rattle.scram_types.specs.Searches.{first_below}
use Rattle.scram_types.specs.Lookups.{conf_id}
use Rattle.coverage_check.specs.Search.{shown_if}
use Rattle.coverage_check.specs.declared.shown.Other.TheVariants as other
use Rattle.coverage_check.specs.Holding.{breaks_from}
use Rattle.coverage_check.specs.Showing.{shown_at}
use Rattle.coverage_check.proofs.holding.refuse_invariant_of.Given as goal

abbrev pub invariant-loop-i : goal.invariant-loop-i
invariant-loop-i l = first_below (λ i. shown_if (breaks_from l.spec l.inv (conf_id i)) (shown_at 11 i (other.Item l.k))) l.i ≡ None
