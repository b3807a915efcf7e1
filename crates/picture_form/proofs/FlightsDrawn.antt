-- Every flight of a specification can be drawn.
use Rattle.std.proofs.Common.{ℕ, ◌<◌, ◌≤◌, ◌^◌, Option, Some, None, length, arith}
use mathlib.Core.Logic.{inl, inr}
use Rattle.std.specs.Prelude.{slice_index}
use Rattle.scram_types.specs.Specification.{IsSpec, Parts}
use Rattle.scram_types.specs.declared.rows.Env.{Env}
use Rattle.scram_types.specs.declared.rows.Report.{Report}
use Rattle.scram_types.specs.declared.rows.Row.{Row}
use Rattle.scram_types.specs.declared.ids.ConfId.{ConfId}
use Rattle.scram_types.specs.declared.limits.TheConstants.{MAX_FRAMES}
use Rattle.scram_types.proofs.Items.{some_item}
use Rattle.scram_types.proofs.Naturals.{low_or_high}
use Rattle.trace_text.specs.Flights.{IsEndShown, IsEnvShown, IsReportShown, IsRowShown}
use Rattle.picture_form.specs.Laws.{FlightsAreDrawn, IsReportDrawn, IsRowDrawn}

value_fits : (spec : Parts) (env : Env) (x : ℕ) → IsSpec spec → IsEnvShown spec env → slice_index env.factors x < 2 ^ 8
value_fits spec env x sound shown = elim (low_or_high x (length spec.factors)) [
  | inl low ↦ some_item spec.factors x low (λ factor there.
      let value = shown.values x factor there in
      let few = (sound.factors x factor there).count.few in
      omega (arith, value, few))
  | inr high ↦ (let none = shown.rest x high in omega (arith, none))
]

row_drawn : (spec : Parts) (f : ℕ) (row : Row) → IsSpec spec → IsRowShown spec f row → IsRowDrawn spec row
row_drawn spec f row sound shown =
    let altitude = shown.world.alt in
    let heading = shown.world.heading in
    record {
      values = λ x. value_fits spec row.env x sound shown.env;
      acts = shown.acts;
      altitude = omega (arith, altitude);
      heading = omega (arith, heading);
    }

end_fits : (frames : ℕ) (to : Option ConfId) (end : ℕ) → IsEndShown frames to end → frames ≤ MAX_FRAMES → end < 2 ^ 32
end_fits frames None end shown few = omega (arith, shown, few)
end_fits frames (Some to) end shown few = omega (arith, shown)

report_drawn : (spec : Parts) (frames : ℕ) (report : Report) → IsReportShown spec frames report → frames ≤ MAX_FRAMES → IsReportDrawn report
report_drawn spec frames report shown few =
    let begun = shown.begun in
    record { begin = omega (arith, begun); end = end_fits frames report.to report.end shown.ended few }

pub flights_drawn : FlightsAreDrawn
flights_drawn spec rows reports sound flight =
    let few = flight.frames in
    record {
      few = omega (arith, few);
      rows_drawn = λ f row there. row_drawn spec f row sound (flight.rows_shown f row there);
      reports_drawn = λ n report there. report_drawn spec (length rows) report (flight.reports_shown n report there) few;
    }
