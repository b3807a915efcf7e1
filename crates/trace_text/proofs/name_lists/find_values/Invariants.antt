use Rattle.std.proofs.Common.{◌≡◌, drop}
use Rattle.std.specs.Prelude.{option_map}
use Rattle.trace_text.specs.Pieces.{pieces_left}
use Rattle.trace_text.specs.RowReading.{values_from, values_in}
use Rattle.trace_text.proofs.name_lists.find_values.Given as goal

abbrev pub invariant-loop-i : goal.invariant-loop-i
invariant-loop-i l =
    values_from (drop l.i l.spec.factors) (pieces_left 44 (option_map (λ b. b.now) l.left)) l.i l.values ≡ values_in l.spec.factors l.list
