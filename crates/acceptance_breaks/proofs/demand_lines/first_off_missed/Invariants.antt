use Rattle.std.proofs.Common.{◌≡◌, ◌-◌, length}
use Rattle.scram_types.specs.Searches.{least_from}
use Rattle.acceptance_breaks.specs.Lines.{first_off_missed, is_off_missed}
use Rattle.acceptance_breaks.proofs.demand_lines.first_off_missed.Given as goal

abbrev pub invariant-loop-a : goal.invariant-loop-a
invariant-loop-a l = least_from (is_off_missed l.spec l.demand l.c) l.a (length l.spec.apps - l.a) ≡ first_off_missed l.spec l.demand l.c
