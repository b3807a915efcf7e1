-- Each reconfiguration that is read off the rows of a script keeps SP2, SP3 and SP5.
use Rattle.std.proofs.Common.{◌≡◌, ℕ, zero, suc, ◌<◌, true, false, not, refl, arith, ap, sym, ◌∙◌, length}
use mathlib.Core.Logic.{inl, inr}
use Rattle.std.specs.Prelude.{Some, None, slice_get, option_map, ◌==◌}
use Rattle.std.specs.Str.{bytes_eq}
use Rattle.std.proofs.lemmas.Slice.Eq.{bytes_eq-Decides}
use Rattle.scram_types.specs.declared.ids.ConfId.{ConfId}
use Rattle.scram_types.specs.declared.rows.Env.{Env}
use Rattle.scram_types.specs.declared.rows.Report as told_reports
use Rattle.scram_types.specs.declared.rows.Row.{Row}
use Rattle.scram_types.specs.declared.specification.Policy.{Policy}
use Rattle.scram_types.specs.declared.specification.Policy.TheVariants.{Retarget, Settle}
use Rattle.scram_types.specs.Scripts.{ScriptParts}
use Rattle.scram_types.specs.Specification.{Parts}
use Rattle.scram_types.proofs.Booleans.{true_false, and_true}
use Rattle.scram_types.proofs.Naturals.{equal_test}
use Rattle.scram_types.proofs.Options.{same_some}
use Rattle.scram_types.proofs.Items.{first_part}
use Rattle.scram_types.specs.Lookups.{conf_id, env_in}
use Rattle.scram_types.proofs.Searches.{get_listed, length_listed}
use Rattle.choice_table.specs.Choices.{choose}
use Rattle.fault_script.specs.Assumption.{is_same_env}
use Rattle.fault_script.specs.Environments.{env_at}
use Rattle.frame_model.specs.Flights.{row_at, rows_of}
use Rattle.frame_model.specs.Laws.{ReadsRowByRow}
use Rattle.frame_model.specs.Readings as readings
use Rattle.trace_props.proofs.Courses.{CourseReading, CourseReading.Steady, CourseReading.Leaving, CourseReport, course_changes_at, course_reading_before, course_report_at}
use Rattle.trace_props.proofs.Promises as promises
use Rattle.trace_props.proofs.Promises.{IsCourseAllAssured, CourseHasCause, IsCourseCutOff}
use Rattle.trace_props.specs.Properties.{ChangesIn, FollowsAnother, KeepsSp2, KeepsSp3, KeepsSp5}
use Rattle.trace_props.proofs.Areas.{reported_of}
use Rattle.trace_props.proofs.GivenBounds.{given_most}
use Rattle.trace_props.proofs.Lists.{each_append, each_option}
use Rattle.trace_props.proofs.Products.{course_of, plan_of, settles_under}
use Rattle.trace_props.proofs.SameReports.{IsEnded, ended_each, ended_place, reading_same, told_reading, told_report}

conf_same : (c : ConfId) (n : ℕ) → c.0 ≡ n → c ≡ conf_id n
conf_same c n e = ap conf_id e

policy_settles : (policy : Policy) → settles_under policy ≡ true → policy ≡ Settle
policy_settles Retarget h = absurd (true_false false h refl)
policy_settles Settle h = refl

pub same_self : (v : Env) → is_same_env v v ≡ true
same_self v = and_true (v.up == v.up) (bytes_eq v.factors v.factors) (equal_test v.up v.up refl) ((bytes_eq-Decides v.factors v.factors).1 refl)

pub not_same : (v w : Env) → not (is_same_env v w) ≡ true → v ≡ w → ⊥
not_same v w h e = true_false (not (is_same_env v w)) h (rw (e, same_self w) refl)

module _ (spec : Parts) (script : ScriptParts) where
  pub row_there : (f : ℕ) → f < script.frames → slice_get (rows_of spec script) f ≡ Some (row_at spec script f)
  row_there f inside = get_listed (row_at spec script) script.frames f inside

  pub env_there : (f : ℕ) → f < script.frames → env_in (rows_of spec script) f ≡ Some (env_at spec script f)
  env_there f inside = ap (option_map (λ (row : Row). row.env)) (row_there f inside)

  pub row_count : length (rows_of spec script) ≡ script.frames
  row_count = length_listed (row_at spec script) script.frames

  change_there : (f : ℕ) → f < script.frames → course_changes_at (plan_of spec) (env_at spec script) f ≡ true → ChangesIn spec (rows_of spec script) f
  change_there zero inside h = absurd (true_false false h refl)
  change_there (suc f) inside h = record {
    inside = rw row_count inside;
    differ = λ same. not_same (env_at spec script f) (env_at spec script (suc f)) h
        (same_some (env_at spec script f) (env_at spec script (suc f)) (sym (env_there f (omega arith)) ∙ sym same ∙ env_there (suc f) inside));
  }

  module _ (by_row : ReadsRowByRow) where
    follows_there : (r : told_reports.Report) → r.begin < script.frames → promises.CourseFollows (plan_of spec) (course_of spec script) r.begin → FollowsAnother spec (rows_of spec script) r
    follows_there r inside h =
        let last = h.last in
        let up_to = h.up_to in
        let at = ended_place spec script by_row script.frames h.before.end h.before (omega arith) h.reported in
        record {
          settles = policy_settles spec.policy h.settles;
          before = told_report h.before;
          place = at.0;
          there = first_part (readings.ended spec (rows_of spec script)) _ at.0 (told_report h.before) at.1;
          last = h.last;
          change = h.change;
          after = h.after;
          up_to = h.up_to;
          changes = change_there h.change (omega arith) h.changed;
        }

    cause_there : (r : told_reports.Report) → CourseHasCause (plan_of spec) (course_of spec script) r.begin → KeepsSp5 spec (rows_of spec script) r
    cause_there r cause soon =
        let early : suc r.begin < script.frames = rw row_count at soon in
        elim cause [
          | inl now ↦ inl (change_there r.begin (omega arith) now)
          | inr other ↦ elim other [
            | inl next ↦ inr (inl (change_there (suc r.begin) early next))
            | inr before ↦ inr (inr (follows_there r (omega arith) before))
          ]
        ]

    -- The reconfiguration keeps SP2, SP3 and SP5.
    pub record KeepsTimes (r : told_reports.Report) : Type 0 where
      pub sp2 : KeepsSp2 spec (rows_of spec script) r
      pub sp3 : KeepsSp3 spec r
      pub sp5 : KeepsSp5 spec (rows_of spec script) r

    ended_keeps : IsCourseAllAssured (plan_of spec) (course_of spec script) → (x : told_reports.Report) → IsEnded spec script by_row script.frames x → KeepsTimes x
    ended_keeps assured x h = rw h.is (keeps h.frame h.report h.inside h.reported)
      where
        keeps : (f : ℕ) (r : CourseReport) → f < script.frames → course_report_at (plan_of spec) (course_of spec script) f ≡ Some r → KeepsTimes (told_report r)
        keeps f r inside reported =
            let a = assured.finished f r inside reported in
            let end = (reported_of (course_of spec script) f (course_reading_before (plan_of spec) (course_of spec script) f) r reported).end in
            let up_to = a.chosen_to in
            record {
              sp2 = λ j is. record {
                frame = a.chosen_at;
                from = a.chosen_from;
                up_to = a.chosen_to;
                seen = env_at spec script a.chosen_at;
                stands = env_there a.chosen_at (omega arith);
                chosen = conf_same (choose spec (conf_id r.from) (env_at spec script a.chosen_at)) r.to a.chosen ∙ (let same : conf_id r.to ≡ j = cc in same);
              };
              sp3 = record { bound = a.bound; given = a.given; in_time = a.in_time };
              sp5 = cause_there (told_report r) a.cause;
            }

    cut_off_keeps : (c s n : ℕ) → n ≡ script.frames → IsCourseCutOff (plan_of spec) (course_of spec script) c s → KeepsTimes (record { from = conf_id c; to = None; begin = s; end = n })
    cut_off_keeps c s n all cut =
        let most = given_most spec.bounds c cut.to cut.bound cut.given in
        let in_time = cut.in_time in
        let enough = most.enough in
        record {
          sp2 = λ j is. cc;
          sp3 = record { bound = most.bound; given = most.is; in_time = omega arith };
          sp5 = cause_there (record { from = conf_id c; to = None; begin = s; end = n }) cut.cause;
        }

    closed_keeps : IsCourseAllAssured (plan_of spec) (course_of spec script) → (rd : CourseReading) → course_reading_before (plan_of spec) (course_of spec script) script.frames ≡ rd
        → (x : told_reports.Report) → readings.close (told_reading rd) (length (rows_of spec script)) ≡ Some x → KeepsTimes x
    closed_keeps assured (Steady c) e x h = cc
    closed_keeps assured (Leaving c s) e x h =
        let same : ◌≡◌ {A = told_reports.Report} (record { from = conf_id c; to = None; begin = s; end = length (rows_of spec script) }) x = cc in
        rw (← same) (cut_off_keeps c s (length (rows_of spec script)) row_count (assured.unfinished c s e))

    pub each_keeps : IsCourseAllAssured (plan_of spec) (course_of spec script) → (k : ℕ) (x : told_reports.Report) → slice_get (readings.reports spec (rows_of spec script)) k ≡ Some x → KeepsTimes x
    each_keeps assured k x h =
        each_append KeepsTimes (readings.ended spec (rows_of spec script)) (readings.as_list (readings.close (readings.reading_of spec (rows_of spec script)) (length (rows_of spec script))))
        (λ i y there. ended_keeps assured y (ended_each spec script by_row script.frames script.frames (omega arith) i y there))
        (each_option KeepsTimes (readings.close (readings.reading_of spec (rows_of spec script)) (length (rows_of spec script)))
        (λ y e. closed_keeps assured (course_reading_before (plan_of spec) (course_of spec script) script.frames) refl y
        (ap (λ rd. readings.close rd (length (rows_of spec script))) (sym (reading_same spec script by_row script.frames)) ∙ e)))
        k x h
