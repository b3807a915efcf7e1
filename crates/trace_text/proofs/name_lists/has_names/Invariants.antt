use Rattle.std.proofs.Common.{length, ◌≡◌, ◌+◌, ◌≤◌}
use Rattle.std.specs.Prelude.{option_map}
use Rattle.std.specs.Option.{option_map_or}
use Rattle.trace_text.specs.Pieces.{pieces_of, pieces_left}
use Rattle.trace_text.proofs.name_lists.has_names.Given as goal

abbrev pub invariant-loop-left : goal.invariant-loop-left
invariant-loop-left l = record {
  rest : length (pieces_left 44 (option_map (λ b. b.now) l.left)) + l.count ≡ length (pieces_of 44 l.list) + l.wanted;
  most : l.wanted ≤ l.count;
}

abbrev pub decreases-loop-left : goal.decreases-loop-left
decreases-loop-left l = option_map_or (λ b. 1 + length b.now) l.left 0
