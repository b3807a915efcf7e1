use Rattle.std.proofs.Common.{length, ◌≡◌, map, ◌++◌, ◌+◌, ◌≤◌, true}
use Rattle.std.specs.Prelude.{option_map}
use Rattle.std.specs.List.{list_all}
use Rattle.std.specs.Option.{option_map_or}
use Rattle.trace_text.specs.Pieces.{words_of, pieces_left, is_filled}
use Rattle.trace_text.proofs.words.split_words.Given as goal

abbrev pub invariant-loop-left : goal.invariant-loop-left
invariant-loop-left l = record {
  split : map (λ w. w.now) l.words.items ++ pieces_left 32 (option_map (λ b. b.now) l.left) ≡ words_of l.line;
  few : length l.words.items ≤ 16;
  filled : list_all is_filled (map (λ w. w.now) l.words.items) ≡ true;
}

abbrev pub decreases-loop-left : goal.decreases-loop-left
decreases-loop-left l = option_map_or (λ b. 1 + length b.now) l.left 0
