use Rattle.std.proofs.Common.{arith}
use Rattle.telemetry_tap.specs.Taps.{tap_mission}
use Rattle.telemetry_tap.proofs.Keeping.{note_splits}
use Rattle.telemetry_tap.proofs.taps.Tap.note.Goals as goal

pub split_seat-inner-requires : goal.split_seat-inner-requires
split_seat-inner-requires c =
    let tap = c.args.self.now in
    let writer = c.args.writer.now in
    (c.requires.writer.table, omega (arith, tap.words), note_splits (tap_mission tap) writer.inner.id writer.inner.me.0 c.requires.writer.writes)
