-- The stream gains the bytes that a write took, and gains no bytes if the write took none.
use Rattle.std.proofs.Common.{◌+◌, arith, length-drop}
use Rattle.std.proofs.lemmas.List.{length-take}
use Rattle.scram_io.proofs.KnownBytes.{appends_kept, appends_part, prefix_taken}
use Rattle.scram_io.proofs.streams.write_whole.Goals as goal

pub turns-preserved : goal.turns-preserved
turns-preserved g c = record {
  gained = appends_part _ _ _ c.args.bytes.now c.turns.start c.in-Ok.count c.turns.invariant.gained c.in-Ok.ensures.bytes;
  within = grind (arith, length-take, length-drop);
}

pub returns-in-Ok-eq0-clause-prefix : goal.returns-in-Ok-eq0-clause-prefix
returns-in-Ok-eq0-clause-prefix g c =
    prefix_taken _ _ c.args.bytes.now (c.turns.start + c.in-Ok-eq0.field-0) (appends_part _ _ _ c.args.bytes.now c.turns.start c.in-Ok-eq0.field-0 c.turns.invariant.gained c.in-Ok-eq0.ensures.bytes)

pub returns-in-Err-clause-prefix : goal.returns-in-Err-clause-prefix
returns-in-Err-clause-prefix g c =
    prefix_taken _ _ c.args.bytes.now c.turns.start (appends_kept _ _ _ _ c.turns.invariant.gained c.in-Err.ensures.bytes)
