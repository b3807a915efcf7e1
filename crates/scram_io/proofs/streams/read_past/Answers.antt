-- If memory runs out, the stream lost the bytes read so far and the last piece.
use Rattle.std.proofs.Common.{◌≡◌, ◌++◌, length, take, vec_len, length-append, arith, rules}
use Rattle.std.proofs.lemmas.List.{length-take}
use Rattle.scram_io.proofs.KnownBytes.{consumes_more}
use Rattle.scram_io.proofs.streams.read_past.Goals as goal

pub returns-in_err-extend_from_slice-clause-asked : goal.returns-in_err-extend_from_slice-clause-asked
returns-in_err-extend_from_slice-clause-asked g c =
    let piece = take c.in_ok-count.count c.read.new.buf in
    let read : length c.turns.bytes.items ≡ vec_len c.turns.bytes = search rules in
    let both = length-append c.turns.bytes.items piece in
    let asked = length-take c.min-want.result c.turns.piece in
    record {
      lost = c.turns.bytes.items ++ piece;
      consumed = consumes_more _ _ _ _ _ c.turns.invariant.lost c.in_ok-count.ensures.bytes.0;
      few = omega (arith, c.in_ok-count.ensures.bound.0, c.in_ok-count.ensures.bound.1, c.read.auto.buf);
    }
