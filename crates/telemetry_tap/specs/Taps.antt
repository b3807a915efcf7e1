-- Taps, their writers and their readers.
use Rattle.std.specs.Prelude.{All, List, ◌≡◌, ℕ, true, false, [], Some}
use Rattle.coverage_check.specs.Missions.{MissionParts}
use Rattle.frame_model.specs.Readings.{reading_of}
use Rattle.telemetry_tap.specs.declared.taps.Reader.{Reader}
use Rattle.telemetry_tap.specs.declared.taps.Tap.{Tap}
use Rattle.telemetry_tap.specs.declared.taps.Writer.{Writer}
use Rattle.telemetry_tap.specs.Summaries.{summary_begun, first_rows}

-- The mission of a tap.
abbrev pub tap_mission : Tap → MissionParts
tap_mission tap = tap.table.shared.key

-- The number of rows that a writer has published.
abbrev pub rows_published : Writer → ℕ
rows_published writer = writer.published

-- The number of rows in the last summary that a reader has loaded.
abbrev pub rows_seen : Reader → ℕ
rows_seen reader = reader.inner.me.0.seen

-- The number of loads that a reader has made.
abbrev pub loads_of : Reader → ℕ
loads_of reader = reader.inner.me.0.loads

-- A writer belongs to the tap. It records the number of rows that it has published, the number of reconfigurations
-- that begin in these rows, and the reading of these rows.
pub record IsWriterOf (tap : Tap) (writer : Writer) : Type 0 where
  pub table : writer.inner.table_id ≡ tap.table.shared.table_id
  pub mission : writer.inner.me.0.mission ≡ Some (tap_mission tap)
  pub writes : writer.inner.me.0.writes ≡ true
  pub seen : writer.inner.me.0.seen ≡ writer.published
  pub empty : writer.inner.me.1 ≡ []
  pub begun : writer.begun ≡ summary_begun (tap_mission tap) writer.published
  pub reading : writer.reading ≡ reading_of (tap_mission tap).spec (first_rows (tap_mission tap) writer.published)

-- A reader belongs to the tap.
pub record IsReaderOf (tap : Tap) (reader : Reader) : Type 0 where
  pub table : reader.inner.table_id ≡ tap.table.shared.table_id
  pub mission : reader.inner.me.0.mission ≡ Some (tap_mission tap)
  pub reads : reader.inner.me.0.writes ≡ false
  pub empty : reader.inner.me.1 ≡ []

-- Each reader belongs to the tap and has seen no row.
abbrev pub AreNewReaders : Tap → List Reader → Type 0
AreNewReaders tap readers = All (λ (reader : Reader). IsReaderOf tap reader × (rows_seen reader ≡ 0)) readers
