use Rattle.std.proofs.Common.{rules, ◌≡◌, ◌∙◌, ap, subst, refl, arith, [], length}
use Rattle.scram_types.specs.Bits.{bits_below}
use Rattle.scram_types.specs.Scripts.{ScriptParts}
use Rattle.scram_types.specs.Specification.{Parts}
use Rattle.fault_script.specs.Times.{is_up}
use Rattle.frame_model.specs.declared.readings.Reading.TheVariants.{Steady}
use Rattle.telemetry_tap.specs.declared.summaries.TheConstants.{NONE_RUNNING}
use Rattle.telemetry_tap.specs.declared.summaries.Summary.{Summary}
use Rattle.telemetry_tap.specs.Rule.{writer_view}
use Rattle.telemetry_tap.specs.Summaries.{summary_after, summary_up}
use Rattle.telemetry_tap.specs.Words.{FitsWord, summary_encode}
use Rattle.telemetry_tap.proofs.Begun.{none_begun}
use Rattle.telemetry_tap.proofs.Keeping.{opens}
use Rattle.telemetry_tap.proofs.Starting.{first_writer}
use Rattle.telemetry_tap.proofs.taps.Tap.lay.Goals as goal

pub of_words-requires : goal.of_words-requires
of_words-requires c =
    let mission = c.args.mission.now in
    let up : c.up_set_at.result ≡ summary_up mission 0 = c.up_set_at.ensures
    ∙ ap (λ (s : ScriptParts). bits_below (λ p. is_up s p 0) (length c.spec.result.now.procs)) c.script.ensures
    ∙ ap (λ (s : Parts). bits_below (λ p. is_up mission.script p 0) (length s.procs)) c.spec.ensures in
    let none = none_begun c.beginnings_are_read.ensures mission in
    let here : ◌≡◌ {A = Summary} (record { frames = 0; running = NONE_RUNNING; up = c.up_set_at.result; begun = 0 }) (summary_after mission 0) =
    λ i. record { frames = 0; running = NONE_RUNNING; up = up i; begun = none i } in
    opens mission c.summary_encode.result (c.summary_encode.ensures ∙ ap summary_encode here)
    (subst FitsWord here (record { frames = omega arith; begun = omega arith; running = omega arith; up = c.up_set_at.type_inv }))

pub returns-clause-writer : goal.returns-clause-writer
returns-clause-writer c =
    let me : c.in_ok-table.inner.me ≡ (writer_view c.in_ok-table.table.shared.key, []) = search rules in
    let start : Steady c.behind-mission.inside.start ≡ Steady c.in_ok-table.table.shared.key.spec.start = search rules in
    let table : c.in_ok-table.inner.table_id ≡ c.in_ok-table.table.shared.table_id = search rules in
    first_writer c.beginnings_are_read.ensures _ _ table me refl refl start
