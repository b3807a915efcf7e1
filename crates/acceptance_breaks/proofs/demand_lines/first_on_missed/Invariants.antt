use Rattle.std.proofs.Common.{◌≡◌, ◌-◌, length}
use Rattle.scram_types.specs.Searches.{least_from}
use Rattle.acceptance_breaks.specs.Lines.{first_on_missed, is_on_missed}
use Rattle.acceptance_breaks.proofs.demand_lines.first_on_missed.Given as goal

abbrev pub invariant-loop-a : goal.invariant-loop-a
invariant-loop-a l = least_from (is_on_missed l.spec l.demand l.c) l.a (length l.spec.apps - l.a) ≡ first_on_missed l.spec l.demand l.c
