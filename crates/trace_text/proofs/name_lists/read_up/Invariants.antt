use Rattle.std.proofs.Common.{◌≡◌, ◌<◌, ◌^◌, drop}
use Rattle.std.specs.Prelude.{option_map}
use Rattle.trace_text.specs.Pieces.{pieces_left}
use Rattle.trace_text.specs.RowReading.{up_from, up_in}
use Rattle.trace_text.proofs.name_lists.read_up.Given as goal

abbrev pub invariant-loop-proc : goal.invariant-loop-proc
invariant-loop-proc l = record {
  rest : up_from (drop l.proc-index l.procs) (pieces_left 44 (option_map (λ b. b.now) l.left)) l.bit l.up ≡ up_in l.procs l.list;
  bit : l.bit ≡ 2 ^ l.proc-index;
  below : l.up < l.bit;
}
