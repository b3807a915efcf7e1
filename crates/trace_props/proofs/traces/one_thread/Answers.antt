use Rattle.std.proofs.Common.{◌≡◌, ◌∙◌, ap, arith, length, refl, sym}
use Rattle.scram_types.specs.Scripts.{ScriptParts}
use Rattle.frame_model.specs.Flights.{reports_of, rows_of}
use Rattle.frame_model.specs.Readings.{reports}
use Rattle.trace_props.proofs.Sizes.{few_reports}
use Rattle.trace_props.proofs.traces.one_thread.Goals as goal

pub rows-requires : goal.rows-requires
rows-requires g c = record { script = rw (c.spec.ensures, c.script.ensures) c.holds.ensures.mission.fits }

pub reports-requires : goal.reports-requires
reports-requires g c =
    let many = c.holds.ensures.mission.fits.frames in
    let flown : length c.deref.result.now ≡ c.args.mission.now.script.frames = ap length c.deref.ensures.value ∙ c.in_ok-rows.ensures.count ∙ ap (λ (s : ScriptParts). s.frames) c.script.ensures in
    omega arith

pub returns : goal.returns
returns g c =
    let flown : c.of.result ≡ rows_of c.args.mission.now.spec c.args.mission.now.script = c.of.ensures ∙ c.in_ok-rows.ensures.rows ∙ rw (c.spec.ensures, c.script.ensures) refl in
    let told : c.of-2.result ≡ reports_of c.args.mission.now.spec c.args.mission.now.script =
    c.of-2.ensures ∙ c.in_ok-reports.ensures ∙ rw (c.spec-2.ensures, c.deref.ensures.value, c.in_ok-rows.ensures.rows, c.spec.ensures, c.script.ensures) refl in
    let rows : length c.of.result ≡ length c.deref.result.now = ap length (c.of.ensures ∙ sym c.deref.ensures.value) in
    let reported : length c.of-2.result ≡ length (reports c.spec-2.result.now c.deref.result.now) = ap length (c.of-2.ensures ∙ c.in_ok-reports.ensures) in
    let few = few_reports c.spec-2.result.now c.deref.result.now in
    record {
      rows = flown;
      reports = told;
      assured = rw (flown, told) (c.reconfigurations_are_assured.ensures c.args.mission.now.spec c.args.mission.now.script c.holds.ensures.spec c.holds.ensures.mission);
      count = ap length c.of.ensures ∙ c.in_ok-rows.ensures.count ∙ ap (λ (s : ScriptParts). s.frames) c.script.ensures;
      few = omega (arith, rows, reported, few);
    }
