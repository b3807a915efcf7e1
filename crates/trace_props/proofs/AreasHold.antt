-- Each reconfiguration that is read off the rows of a script keeps its invariants, and its target's preconditions
-- hold before its end.
use Rattle.std.proofs.Common.{◌≡◌, ℕ, suc, ◌<◌, true, refl, arith, ap, sym, ◌∙◌, subst, length}
use Rattle.std.specs.Prelude.{Some, None, slice_get}
use Rattle.std.proofs.lemmas.Option.{slice_get_within}
use Rattle.scram_types.specs.declared.ids.ConfId.{ConfId}
use Rattle.scram_types.specs.declared.rows.Report as told_reports
use Rattle.scram_types.specs.declared.rows.Row.{Row}
use Rattle.scram_types.specs.Numbers.{word}
use Rattle.scram_types.specs.Scripts.{ScriptParts}
use Rattle.scram_types.specs.Specification.{IsSpec, Parts}
use Rattle.scram_types.specs.Lookups.{conf_id}
use Rattle.scram_types.proofs.Searches.{get_listed, length_listed}
use Rattle.coverage_check.specs.Acceptance.{Accepts}
use Rattle.frame_model.specs.Flights.{row_at, rows_of}
use Rattle.frame_model.specs.Laws.{ReadsRowByRow}
use Rattle.frame_model.specs.Readings as readings
use Rattle.trace_props.proofs.Courses.{CourseReading, CourseReading.Steady, CourseReading.Leaving, CourseReport, course_reading_before, course_report_at}
use Rattle.trace_props.proofs.CourseAreas.{AreasKept}
use Rattle.trace_props.specs.Properties.{KeepsSp4}
use Rattle.trace_props.proofs.Lists.{each_append, each_option}
use Rattle.trace_props.proofs.Intervals.{kept_of, ready_of, invariant_of, precondition_of, speaks_in}
use Rattle.trace_props.proofs.Products.{build_of, course_of, plan_of}
use Rattle.trace_props.specs.Judging.{lies_in}
use Rattle.trace_props.proofs.Ranging.{KindsLie, area, laws_of, lies_of}
use Rattle.trace_props.proofs.SameReports.{IsEnded, ended_each, reading_same, told_reading, told_report}

module _ (spec : Parts) (sound : IsSpec spec) (accepts : Accepts spec) (kinds : KindsLie) (script : ScriptParts) (by_row : ReadsRowByRow)
    (areas : AreasKept (plan_of spec) (build_of spec) (course_of spec script) (laws_of spec) (area spec sound kinds script)) where
  row_count : length (rows_of spec script) ≡ script.frames
  row_count = length_listed (row_at spec script) script.frames

  inside_rows : (f : ℕ) (row : Row) → slice_get (rows_of spec script) f ≡ Some row → f < script.frames
  inside_rows f row there = rw row_count at (slice_get_within (rows_of spec script) f row there)

  row_is : (f : ℕ) (row : Row) → slice_get (rows_of spec script) f ≡ Some row → row ≡ row_at spec script f
  row_is f row there =
      let at = get_listed (row_at spec script) script.frames f (inside_rows f row there) in
      let same : Some row ≡ Some (row_at spec script f) = sym there ∙ at in
      cc

  ended_holds : (x : told_reports.Report) → IsEnded spec script by_row script.frames x → KeepsSp4 spec (rows_of spec script) x
  ended_holds x h = rw h.is (holds h.frame h.report h.inside h.reported)
    where
      holds : (f : ℕ) (r : CourseReport) → f < script.frames → course_report_at (plan_of spec) (course_of spec script) f ≡ Some r → KeepsSp4 spec (rows_of spec script) (told_report r)
      holds f r inside reported = record {
        throughout = λ k inv there speaks g row from to at.
            rw (row_is g row at) (lies_of inv.least inv.greatest (word (area spec sound kinds script (suc g) inv.app.0) inv.variable)
            (areas.throughout f r (invariant_of inv) g inside reported (kept_of spec sound accepts k inv there) (speaks_in inv.from (conf_id r.from) speaks) from to));
        ready = λ k pre there to g row last at.
            let aimed : conf_id r.to ≡ pre.conf = cc in
            rw (row_is g row at) (lies_of pre.least pre.greatest (word (area spec sound kinds script (suc g) pre.app.0) pre.variable)
            (subst (λ e. lies_in pre.least pre.greatest (word (area spec sound kinds script e pre.app.0) pre.variable) ≡ true) (sym last)
            (areas.ready f r (precondition_of pre) inside reported (ready_of spec sound accepts k pre there) (sym (ap (λ (c : ConfId). c.0) aimed)))));
      }

  cut_off_holds : (c s n : ℕ) → course_reading_before (plan_of spec) (course_of spec script) script.frames ≡ Leaving c s → KeepsSp4 spec (rows_of spec script) (record { from = conf_id c; to = None; begin = s; end = n })
  cut_off_holds c s n is = record {
    throughout = λ k inv there speaks g row from to at.
        rw (row_is g row at) (lies_of inv.least inv.greatest (word (area spec sound kinds script (suc g) inv.app.0) inv.variable)
        (areas.cut_off c s (invariant_of inv) g is (kept_of spec sound accepts k inv there) (speaks_in inv.from (conf_id c) speaks) from (inside_rows g row at)));
    ready = λ k pre there to g row last at. cc;
  }

  closed_holds : (rd : CourseReading) → course_reading_before (plan_of spec) (course_of spec script) script.frames ≡ rd
      → (x : told_reports.Report) → readings.close (told_reading rd) (length (rows_of spec script)) ≡ Some x → KeepsSp4 spec (rows_of spec script) x
  closed_holds (Steady c) e x h = cc
  closed_holds (Leaving c s) e x h =
      let same : ◌≡◌ {A = told_reports.Report} (record { from = conf_id c; to = None; begin = s; end = length (rows_of spec script) }) x = cc in
      rw (← same) (cut_off_holds c s (length (rows_of spec script)) e)

  pub each_holds : (k : ℕ) (x : told_reports.Report) → slice_get (readings.reports spec (rows_of spec script)) k ≡ Some x → KeepsSp4 spec (rows_of spec script) x
  each_holds k x h =
      each_append (KeepsSp4 spec (rows_of spec script)) (readings.ended spec (rows_of spec script)) (readings.as_list (readings.close (readings.reading_of spec (rows_of spec script)) (length (rows_of spec script))))
      (λ i y there. ended_holds y (ended_each spec script by_row script.frames script.frames (omega arith) i y there))
      (each_option (KeepsSp4 spec (rows_of spec script)) (readings.close (readings.reading_of spec (rows_of spec script)) (length (rows_of spec script)))
      (λ y e. closed_holds (course_reading_before (plan_of spec) (course_of spec script) script.frames) refl y
      (ap (λ rd. readings.close rd (length (rows_of spec script))) (sym (reading_same spec script by_row script.frames)) ∙ e)))
      k x h
