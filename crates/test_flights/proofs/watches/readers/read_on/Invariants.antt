use Rattle.telemetry_tap.specs.Taps.{IsReaderOf}
use Rattle.test_flights.proofs.watches.readers.read_on.Given as goal

abbrev pub invariant-loop : goal.invariant-loop
invariant-loop l = IsReaderOf l.tap l.reader
