-- Lemmas on the writer that an opening creates.
use Rattle.std.proofs.Common.{◌≡◌, ◌∙◌, ap, sym, subst, List, [], ◌∷◌, ◌++◌}
use Rattle.std.proofs.lemmas.List.Elements.{All-push}
use Rattle.telemetry_tap.specs.declared.taps.Reader.{Reader}
use Rattle.frame_model.specs.declared.readings.Reading.TheVariants.{Steady}
use Rattle.frame_model.specs.Laws.{BeginningsAreRead}
use Rattle.frame_model.specs.Readings.{reading_of}
use Rattle.telemetry_tap.specs.declared.taps.Tap.{Tap}
use Rattle.telemetry_tap.specs.declared.taps.Writer.{Writer}
use Rattle.telemetry_tap.specs.Rule.{TapSeat, writer_view}
use Rattle.telemetry_tap.specs.Summaries.{summary_begun, first_rows}
use Rattle.telemetry_tap.specs.Taps.{AreNewReaders, IsReaderOf, IsWriterOf, rows_seen, tap_mission}
use Rattle.telemetry_tap.proofs.Begun.{none_begun}

pub first_writer : BeginningsAreRead → (tap : Tap) (writer : Writer) → writer.inner.table_id ≡ tap.table.shared.table_id → writer.inner.me ≡ (writer_view (tap_mission tap), [])
    → writer.published ≡ 0 → writer.begun ≡ 0 → writer.reading ≡ Steady (tap_mission tap).spec.start → IsWriterOf tap writer
first_writer law tap writer table me none few start = record {
  table = table;
  mission = ap (λ (seat : TapSeat). seat.0.mission) me;
  writes = ap (λ (seat : TapSeat). seat.0.writes) me;
  seen = ap (λ (seat : TapSeat). seat.0.seen) me ∙ sym none;
  empty = ap (λ (seat : TapSeat). seat.1) me;
  begun = few ∙ none_begun law (tap_mission tap) ∙ ap (summary_begun (tap_mission tap)) (sym none);
  reading = start ∙ ap (λ n. reading_of (tap_mission tap).spec (first_rows (tap_mission tap) n)) (sym none);
}

-- A new reader after new readers.

pub new_more : (tap : Tap) (readers all : List Reader) (reader : Reader) → AreNewReaders tap readers → IsReaderOf tap reader → rows_seen reader ≡ 0 → all ≡ readers ++ reader ∷ [] → AreNewReaders tap all
new_more tap readers all reader are is none same =
    subst (AreNewReaders tap) (sym same)
    (All-push (λ (r : Reader). IsReaderOf tap r × (rows_seen r ≡ 0)) readers reader are (is, none))
