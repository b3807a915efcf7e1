use Rattle.telemetry_tap.specs.Taps.{IsReaderOf}
use Rattle.flight_forms.proofs.watches.read_to_the_end.Given as goal

abbrev pub invariant-loop : goal.invariant-loop
invariant-loop l = IsReaderOf l.tap l.reader
