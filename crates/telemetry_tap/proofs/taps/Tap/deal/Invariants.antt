use Rattle.std.specs.Prelude.{◌≡◌, length}
use Rattle.telemetry_tap.specs.Taps.{AreNewReaders, IsWriterOf, rows_published}
use Rattle.telemetry_tap.proofs.taps.Tap.deal.Given as goal

abbrev pub invariant-loop-i : goal.invariant-loop-i
invariant-loop-i l = IsWriterOf l.self l.writer × (rows_published l.writer ≡ 0) × AreNewReaders l.self l.dealt.items × (length l.dealt.items ≡ l._i)
