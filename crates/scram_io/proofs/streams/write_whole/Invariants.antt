-- The stream gained the bytes before index `start`.
use Rattle.std.proofs.Common.{◌-◌, ◌≤◌, length, take}
use Rattle.std.specs.Io.KnownBytes.{Appends}
use Rattle.scram_io.proofs.streams.write_whole.Given as goal

abbrev pub invariant-turns : goal.invariant-turns
invariant-turns g l = record {
  gained : Appends (g.O.Write.contents l.initial.output) (g.O.Write.contents l.output) (take l.start l.bytes);
  within : l.start ≤ length l.bytes;
}

abbrev pub decreases-turns : goal.decreases-turns
decreases-turns g l = length l.bytes - l.start
