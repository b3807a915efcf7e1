-- The bytes read so far are the bytes that the stream lost, and they exceed the limit by at most one.
use Rattle.std.proofs.Common.{◌+◌, ◌-◌, ◌≤◌, length}
use Rattle.std.specs.Io.KnownBytes.{Consumes}
use Rattle.scram_io.proofs.streams.read_past.Given as goal

abbrev pub invariant-turns : goal.invariant-turns
invariant-turns g l = record {
  lost : Consumes (g.I.Read.remaining l.initial.input) (g.I.Read.remaining l.input) l.bytes.items;
  most : length l.bytes.items ≤ l.limit + 1;
}

abbrev pub decreases-turns : goal.decreases-turns
decreases-turns g l = l.limit + 1 - length l.bytes.items
