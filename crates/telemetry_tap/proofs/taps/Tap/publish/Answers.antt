use Rattle.std.proofs.Common.{rules, ◌≡◌, ◌≤◌, ◌<◌, ◌+◌, ◌∙◌, suc, ap, subst, arith}
use Rattle.frame_model.specs.Readings.{read_row}
use Rattle.frame_model.specs.Runs.{running}
use Rattle.telemetry_tap.specs.declared.summaries.Summary.{Summary}
use Rattle.telemetry_tap.specs.declared.views.TapView.{TapView}
use Rattle.telemetry_tap.specs.Taps.{tap_mission}
use Rattle.telemetry_tap.specs.Summaries.{summary_begun, begun_with, running_number, summary_after}
use Rattle.telemetry_tap.specs.Words.{FitsWord, summary_encode}
use Rattle.telemetry_tap.proofs.Begun.{begun_few, within}
use Rattle.telemetry_tap.proofs.Telling.{reading_after_row, summary_next}
use Rattle.telemetry_tap.proofs.Keeping.{publish_allows}
use Rattle.telemetry_tap.proofs.taps.Tap.publish.Goals as goal

pub overflow_add-begun : goal.overflow_add-begun
overflow_add-begun c =
    let tap = c.args.self.now in
    let writer = c.args.writer.now in
    let low = within (tap_mission tap) writer.published c.args.row.now c.requires.row in
    let most : (tap_mission tap).script.frames ≤ 20000 = rw tap.key c.holds.ensures.mission.fits.frames in
    let few = begun_few c.beginnings_are_read.ensures (tap_mission tap) writer.published (omega (arith, low)) in
    let same = c.requires.writer.begun in
    let once = c.begun_with.ensures.few in
    let small : writer.begun + c.begun_with.result < 4294967296 = omega (arith, low, most, few, same, once) in
    search rules

pub overflow_add-summary : goal.overflow_add-summary
overflow_add-summary c =
    let tap = c.args.self.now in
    let writer = c.args.writer.now in
    let low = within (tap_mission tap) writer.published c.args.row.now c.requires.row in
    let most : (tap_mission tap).script.frames ≤ 20000 = rw tap.key c.holds.ensures.mission.fits.frames in
    let small : writer.published + 1 < 4294967296 = omega (arith, low, most) in
    search rules

pub store-requires : goal.store-requires
store-requires c =
    let tap = c.args.self.now in
    let writer = c.args.writer.now in
    let row = c.args.row.now in
    let low = within (tap_mission tap) writer.published row c.requires.row in
    let most : (tap_mission tap).script.frames ≤ 20000 = rw tap.key c.holds.ensures.mission.fits.frames in
    let few = begun_few c.beginnings_are_read.ensures (tap_mission tap) writer.published (omega (arith, low)) in
    let same = c.requires.writer.begun in
    let once = c.begun_with.ensures.few in
    let number : c.running_number.result ≡ running_number (running (tap_mission tap).spec row.acts) = search rules in
    let begun : c.begun_with.result ≡ begun_with (tap_mission tap).spec writer.reading row.acts = search rules in
    let same_up : c.up_in.result ≡ row.env.up = search rules in
    let here : ◌≡◌ {A = Summary} (record { frames = writer.published + 1; running = c.running_number.result; up = c.up_in.result; begun = writer.begun + c.begun_with.result })
    (summary_after (tap_mission tap) (suc writer.published)) =
    (λ i. record { frames = writer.published + 1; running = number i; up = same_up i; begun = writer.begun + begun i })
    ∙ summary_next c.beginnings_are_read.ensures (tap_mission tap) writer.published row writer.begun writer.reading c.requires.row c.requires.writer.begun c.requires.writer.reading in
    let word : c.summary_encode.result ≡ summary_encode (summary_after (tap_mission tap) (suc writer.published)) = c.summary_encode.ensures ∙ ap summary_encode here in
    let fits : FitsWord (summary_after (tap_mission tap) (suc writer.published)) =
    subst FitsWord here (record { frames = omega (arith, low, most); begun = omega (arith, low, most, few, same, once); running = c.running_number.type_inv; up = c.up_in.type_inv }) in (
      c.requires.writer.table,
      omega (arith, tap.words),
      publish_allows (tap_mission tap) tap.table.shared.table_id.slots writer.inner.id writer.inner.me c.requires.writer.empty c.requires.writer.writes writer.published
          c.summary_encode.result c.requires.writer.seen low word fits,
    )

pub overflow_add-writer : goal.overflow_add-writer
overflow_add-writer c =
    let tap = c.args.self.now in
    let writer = c.args.writer.now in
    let low = within (tap_mission tap) writer.published c.args.row.now c.requires.row in
    let most : (tap_mission tap).script.frames ≤ 20000 = rw tap.key c.holds.ensures.mission.fits.frames in
    let small : writer.published + 1 < 4294967296 = omega (arith, low, most) in
    search rules

pub returns-clause-writer : goal.returns-clause-writer
returns-clause-writer c =
    let tap = c.args.self.now in
    let writer = c.args.writer.now in
    let row = c.args.row.now in
    let seen = c.requires.writer.seen in
    let more = ap (λ (v : TapView). v.seen) c.store.ensures.2.0 in
    let begun : c.begun_with.result ≡ begun_with (tap_mission tap).spec writer.reading row.acts = search rules in
    let one : suc writer.published ≡ writer.published + 1 = omega arith in
    let read : c.read_row-reading.result.0 ≡ read_row (tap_mission tap).spec writer.reading writer.published row.acts = search rules in
    record {
      table = c.store.ensures.0 ∙ c.requires.writer.table;
      mission = ap (λ (v : TapView). v.mission) c.store.ensures.2.0 ∙ c.requires.writer.mission;
      writes = ap (λ (v : TapView). v.writes) c.store.ensures.2.0 ∙ c.requires.writer.writes;
      seen = omega (arith, seen, more);
      empty = c.store.ensures.2.1;
      begun =
          ap (λ n. writer.begun + n) begun
          ∙ ap (λ (s : Summary). s.begun) (summary_next c.beginnings_are_read.ensures (tap_mission tap) writer.published row writer.begun writer.reading
          c.requires.row c.requires.writer.begun c.requires.writer.reading)
          ∙ ap (summary_begun (tap_mission tap)) one;
      reading = reading_after_row (tap_mission tap) writer.published row writer.reading c.read_row-reading.result.0 c.requires.row c.requires.writer.reading read;
    }
