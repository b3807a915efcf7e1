-- The reconfigurations that are read off the rows of a script are the reconfigurations of its course.
use Rattle.std.proofs.Common.{◌≡◌, ℕ, zero, suc, ◌<◌, ◌≤◌, Bool, true, false, refl, arith, ap, sym, ◌∙◌, List, [], ◌++◌, length, ◌⊎◌}
use mathlib.Core.Logic.{inl, inr}
use Rattle.std.specs.Prelude.{Option, Some, None, slice_get, option_map, if◌then◌else◌}
use Rattle.scram_types.specs.declared.rows.Report as told_reports
use Rattle.scram_types.specs.declared.rows.Row.{Row}
use Rattle.scram_types.specs.Scripts.{ScriptParts}
use Rattle.scram_types.specs.Specification.{Parts}
use Rattle.scram_types.proofs.Items.{first_part, next_part}
use Rattle.scram_types.specs.Searches.{listed_below}
use Rattle.scram_types.specs.Lookups.{conf_id}
use Rattle.scram_types.proofs.Searches.{length_listed}
use Rattle.frame_model.specs.declared.readings.Reading as told_readings
use Rattle.frame_model.specs.declared.readings.Reading.TheVariants as told
use Rattle.frame_model.specs.Flights.{row_at}
use Rattle.frame_model.specs.Laws.{ReadsRowByRow}
use Rattle.frame_model.specs.Readings as readings
use Rattle.trace_props.proofs.Courses.{CourseReading, CourseReading.Steady, CourseReading.Leaving, CourseReport, course_arrive, course_read_row, course_reading_before, course_arrival, course_report_of, course_report_at}
use Rattle.trace_props.proofs.Lists.{each_append, each_option}
use Rattle.trace_props.proofs.Products.{course_of, plan_of, runs_in_row}

abbrev pub told_reading : CourseReading → told_readings.Reading
told_reading (Steady c) = told.Steady (conf_id c)
told_reading (Leaving c s) = told.Leaving (conf_id c) s

abbrev pub told_report : CourseReport → told_reports.Report
told_report r = record { from = conf_id r.from; to = Some (conf_id r.to); begin = r.begin; end = r.end }

-- The rows of the first `n` frames of a script.
abbrev pub rows_below : Parts → ScriptParts → ℕ → List Row
rows_below spec script n = listed_below (row_at spec script) n

read_if : (b : Bool) (x y : CourseReading) → (if b then told_reading x else told_reading y) ≡ told_reading (if b then x else y)
read_if true x y = refl
read_if false x y = refl

arrive_same : (c s : ℕ) (o : Option ℕ) → readings.arrive (conf_id c) s (option_map conf_id o) ≡ told_reading (course_arrive c s o)
arrive_same c s None = refl
arrive_same c s (Some j) = refl

arrival_same : (c s f : ℕ) (o : Option ℕ) → readings.arrival (conf_id c) s f (option_map conf_id o) ≡ option_map told_report (course_arrival c s f o)
arrival_same c s f None = refl
arrival_same c s f (Some j) = refl

module _ (spec : Parts) (script : ScriptParts) where
  read_same : (f : ℕ) (rd : CourseReading) → readings.read_row spec (told_reading rd) f (row_at spec script f).acts ≡ told_reading (course_read_row (course_of spec script) f rd)
  read_same f (Steady c) = read_if (runs_in_row spec script f c) (Steady c) (Leaving c f)
  read_same f (Leaving c s) = arrive_same c s ((course_of spec script).running f)

  report_same : (f : ℕ) (rd : CourseReading) → readings.report_of spec (told_reading rd) f (row_at spec script f).acts ≡ option_map told_report (course_report_of (course_of spec script) f rd)
  report_same f (Steady c) = refl
  report_same f (Leaving c s) = arrival_same c s f ((course_of spec script).running f)

  module _ (by_row : ReadsRowByRow) where
    pub reading_same : (n : ℕ) → readings.reading_of spec (rows_below spec script n) ≡ told_reading (course_reading_before (plan_of spec) (course_of spec script) n)
    reading_same zero = refl
    reading_same (suc n) =
        (by_row spec (rows_below spec script n) (row_at spec script n)).0
        ∙ ap (λ k. readings.read_row spec (readings.reading_of spec (rows_below spec script n)) k (row_at spec script n).acts) (length_listed (row_at spec script) n)
        ∙ ap (λ rd. readings.read_row spec rd n (row_at spec script n).acts) (reading_same n)
        ∙ read_same n (course_reading_before (plan_of spec) (course_of spec script) n)

    -- With a further row, the list of ended reconfigurations grows by the report of the course in the frame of that
    -- row, if there is one.
    pub ended_more : (n : ℕ) → readings.ended spec (rows_below spec script (suc n))
        ≡ readings.ended spec (rows_below spec script n) ++ readings.as_list (option_map told_report (course_report_at (plan_of spec) (course_of spec script) n))
    ended_more n =
        (by_row spec (rows_below spec script n) (row_at spec script n)).1
        ∙ ap (λ k. readings.ended spec (rows_below spec script n) ++ readings.as_list (readings.report_of spec (readings.reading_of spec (rows_below spec script n)) k (row_at spec script n).acts))
        (length_listed (row_at spec script) n)
        ∙ ap (λ rd. readings.ended spec (rows_below spec script n) ++ readings.as_list (readings.report_of spec rd n (row_at spec script n).acts)) (reading_same n)
        ∙ ap (λ o. readings.ended spec (rows_below spec script n) ++ readings.as_list o) (report_same n (course_reading_before (plan_of spec) (course_of spec script) n))

    -- A reconfiguration that has ended is the report of the course in some frame below `frames`.
    pub record IsEnded (frames : ℕ) (x : told_reports.Report) : Type 0 where
      pub frame : ℕ
      pub inside : frame < frames
      pub report : CourseReport
      pub reported : course_report_at (plan_of spec) (course_of spec script) frame ≡ Some report
      pub is : x ≡ told_report report

    ended_one : (frames n : ℕ) → n < frames → (o : Option CourseReport) → course_report_at (plan_of spec) (course_of spec script) n ≡ o → (x : told_reports.Report) → option_map told_report o ≡ Some x → IsEnded frames x
    ended_one frames n inside None e x h = cc
    ended_one frames n inside (Some r) e x h = let same : told_report r ≡ x = cc in record { frame = n; inside = inside; report = r; reported = e; is = sym same }

    pub ended_each : (frames n : ℕ) → n ≤ frames → (k : ℕ) (x : told_reports.Report) → slice_get (readings.ended spec (rows_below spec script n)) k ≡ Some x → IsEnded frames x
    ended_each frames zero inside k x h = each_option (IsEnded frames) None (λ y e. cc) k x h
    ended_each frames (suc n) inside k x h =
        each_append (IsEnded frames) (readings.ended spec (rows_below spec script n)) (readings.as_list (option_map told_report (course_report_at (plan_of spec) (course_of spec script) n)))
        (ended_each frames n (omega arith))
        (each_option (IsEnded frames) (option_map told_report (course_report_at (plan_of spec) (course_of spec script) n)) (ended_one frames n (omega arith) (course_report_at (plan_of spec) (course_of spec script) n) refl))
        k x (ap (λ xs. slice_get xs k) (sym (ended_more n)) ∙ h)

    -- Lemmas that each reconfiguration of the course has an index in the list of the reconfigurations that are read.
    below_or_last : (k n : ℕ) → k < suc n → (k < n) ⊎ (k ≡ n)
    below_or_last k n h = grind arith

    pub ended_place : (n frame : ℕ) (r : CourseReport) → frame < n → course_report_at (plan_of spec) (course_of spec script) frame ≡ Some r
        → (place : ℕ) × (slice_get (readings.ended spec (rows_below spec script n)) place ≡ Some (told_report r))
    ended_place zero frame r inside e = absurd (omega arith)
    ended_place (suc n) frame r inside e = elim (below_or_last frame n inside) [
      | inl low ↦ (let at = ended_place n frame r low e in
          (at.0, ap (λ xs. slice_get xs at.0) (ended_more n) ∙ first_part (readings.ended spec (rows_below spec script n)) _ at.0 (told_report r) at.1))
      | inr last ↦ (let now : course_report_at (plan_of spec) (course_of spec script) n ≡ Some r = rw last at e in (
        length (readings.ended spec (rows_below spec script n)),
        ap (λ xs. slice_get xs (length (readings.ended spec (rows_below spec script n)))) (ended_more n ∙ ap (λ o. readings.ended spec (rows_below spec script n) ++ readings.as_list (option_map told_report o)) now)
            ∙ next_part (readings.ended spec (rows_below spec script n)) [] (told_report r),
      ))
    ]
