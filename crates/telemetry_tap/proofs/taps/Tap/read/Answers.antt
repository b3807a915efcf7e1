use Rattle.std.proofs.Common.{◌∙◌, ap, arith}
use Rattle.std.proofs.lemmas.Grind.{common_steps}
use Rattle.telemetry_tap.specs.Rule.{ShowsSummary}
use Rattle.telemetry_tap.specs.Taps.{tap_mission}
use Rattle.telemetry_tap.specs.Summaries.{summary_after}
use Rattle.telemetry_tap.specs.Words.{summary_decode}
use Rattle.telemetry_tap.proofs.Decoding.{summary_back}
use Rattle.telemetry_tap.proofs.Keeping.{read_allows, summary_shown}
use Rattle.telemetry_tap.proofs.taps.Tap.read.Goals as goal

pub load-word-requires : goal.load-word-requires
load-word-requires c =
    let tap = c.args.self.now in
    let reader = c.args.reader.now in (
      c.requires.reader.table,
      omega (arith, tap.words),
      read_allows (tap_mission tap) tap.table.shared.table_id.slots reader.inner.id reader.inner.me c.requires.reader.empty c.requires.reader.mission c.requires.reader.reads,
    )

shown : (c : goal.After-summary_decode) → ShowsSummary (tap_mission c.args.self.now) c.args.reader.now.inner.me.0 c.load-word.result c.load-word.new.seat.me.0
shown c =
    let me = c.args.reader.now.inner.me.0 in
    summary_shown (tap_mission c.args.self.now) me c.load-word.new.seat.me.0 c.load-word.result c.requires.reader.mission c.load-word.ensures.2.1

pub returns-clause-summary : goal.returns-clause-summary
returns-clause-summary c =
    let summary = summary_after (tap_mission c.args.self.now) c.load-word.new.seat.me.0.seen in
    c.summary_decode.ensures ∙ ap summary_decode (shown c).word ∙ summary_back summary (shown c).fits

pub returns-clause-within : goal.returns-clause-within
returns-clause-within c = (shown c).within

pub returns-clause-loads : goal.returns-clause-loads
returns-clause-loads c = grind (arith, common_steps)
