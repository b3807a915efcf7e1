use Rattle.std.proofs.Common.{length, ◌≡◌, ◌+◌}
use Rattle.std.specs.Prelude.{option_map}
use Rattle.std.specs.List.{list_all}
use Rattle.std.specs.Option.{option_map_or}
use Rattle.trace_text.specs.Pieces.{items_of, pieces_left}
use Rattle.trace_text.specs.RowReading.{is_proc_name}
use Rattle.trace_text.proofs.name_lists.are_procs.Given as goal

abbrev pub invariant-loop-left : goal.invariant-loop-left
invariant-loop-left l = list_all (is_proc_name l.spec) (pieces_left 44 (option_map (λ b. b.now) l.left)) ≡ list_all (is_proc_name l.spec) (items_of l.list)

abbrev pub decreases-loop-left : goal.decreases-loop-left
decreases-loop-left l = option_map_or (λ b. 1 + length b.now) l.left 0
