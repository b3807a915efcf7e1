-- The assurance `AssuresFlights` follows from each answer of `flights` with status 0.
use Rattle.std.proofs.Common.{◌≡◌, ◌∙◌, ◌+◌, sym, ◌-◌, ◌-ℤ◌, pos, ap, arith, ℕ, zero, suc, List, [], ◌∷◌, refl, subst, inl, inr}
use Rattle.std.specs.Prelude.{Option, Some, None, Result, Ok, Err, slice_get}
use Rattle.scram_types.specs.Scripts.{ScriptParts}
use Rattle.scram_types.specs.Specification.{IsSpec, Parts, bound_in}
use Rattle.scram_types.specs.declared.rows.Report.{Report}
use Rattle.scram_types.specs.declared.ids.ConfId.{ConfId}
use Rattle.scram_doc.specs.declared.fault.DocFault.{DocFault}
use Rattle.fault_script.specs.declared.assumption.Outside.{Outside}
use Rattle.fault_script.specs.Assumption.{first_outside}
use Rattle.fault_script.specs.Reading.{script_of}
use Rattle.fault_script.proofs.Fitting.{script_of_fits}
use Rattle.coverage_check.specs.declared.shown.Shown.{Shown}
use Rattle.coverage_check.specs.Acceptance.{Accepts, first_refusal}
use Rattle.coverage_check.proofs.Accepting.{accepts_iff_unrefused}
use Rattle.coverage_check.proofs.Flights.{is_mission}
use Rattle.frame_model.specs.Flights.{reports_of, rows_of}
use Rattle.trace_props.specs.Missions.{ReconfigurationsAreAssured}
use Rattle.trace_props.specs.Properties.{KeepsSp3}
use Rattle.flight_facts.specs.Margins.{bound_of, bound_to}
use Rattle.form_base.specs.declared.status.TheConstants.{ANSWERED}
use Rattle.form_base.specs.Acceptance.{acceptance_refusal}
use Rattle.form_base.specs.Answers.{WithoutFiles}
use Rattle.form_base.specs.Assurance.{IsAssuring}
use Rattle.form_base.proofs.Assuring.{document_assures, not_zero, specification_assures}
use Rattle.form_base.specs.mission_files.Documents.{long_script}
use Rattle.form_base.specs.mission_files.Missions.{UnlessRefused}
use Rattle.flights_form.specs.declared.facts.FlightFacts.{FlightFacts}
use Rattle.flights_form.specs.declared.limits.TheConstants.{MAX_SCRIPTS_BYTES}
use Rattle.flights_form.specs.declared.outcomes.Outcome.{Outcome}
use Rattle.flights_form.specs.declared.outcomes.Outcome.TheVariants.{Flown}
use Rattle.flights_form.specs.Answers.{FlightsAnswers, ScriptsAnswers, GivesFlights}
use Rattle.flights_form.specs.Assurance.{AreAssuredFlights, AssuresFlights, IsAssuredFlight, KeepsMargin}
use Rattle.flights_form.specs.Facts.{facts_of, least_margin, margin_in, margin_to}
use Rattle.flights_form.proofs.Kept.{gap_kept, gap_total_kept, margin_kept, margin_total_kept}
use Rattle.flights_form.specs.Outcomes.{AreOutcomes, IsOutcome, outcome_read, outcome_within}
use Rattle.flights_form.specs.Scripts.{BreaksNothing, SaysScripts, lines_of}

-- If the outcomes satisfy `AreOutcomes` for the lines, outcome `k` is the outcome of line `k`.
outcome_at : (spec : Parts) (lines : List (List ℕ)) (outcomes : List Outcome) (k : ℕ) (line : List ℕ) (outcome : Outcome) → AreOutcomes spec lines outcomes
    → slice_get lines k ≡ Some line → slice_get outcomes k ≡ Some outcome → IsOutcome spec line outcome
outcome_at spec [] [] k line outcome are there that = absurd (let e = there in cc)
outcome_at spec [] (o ∷ outcomes) k line outcome are there that = absurd are
outcome_at spec (l ∷ lines) [] k line outcome are there that = absurd are
outcome_at spec (l ∷ lines) (o ∷ outcomes) zero line outcome are there that =
    let same_line : l ≡ line = let e = there in cc in
    let same : o ≡ outcome = let e = that in cc in
    subst (λ (x : List ℕ). IsOutcome spec x outcome) same_line (subst (λ (x : Outcome). IsOutcome spec l x) same are.0)
outcome_at spec (l ∷ lines) (o ∷ outcomes) (suc k) line outcome are there that = outcome_at spec lines outcomes k line outcome are.1 there that

-- The facts of a mission bound the margins of its finished reconfigurations and the gaps of its applications.

margin_of_finished : (spec : Parts) (reports : List Report) (k : ℕ) (report : Report) (to : ConfId) → slice_get reports k ≡ Some report → report.to ≡ Some to → KeepsSp3 spec report
    → KeepsMargin spec (least_margin spec reports) report to
margin_of_finished spec reports k report to there finished keeps =
    let given : bound_in spec.bounds report.from.0 to.0 ≡ Some keeps.bound = rw finished at keeps.given in
    let bound : bound_of spec report ≡ Some keeps.bound = ap (λ (o : Option ConfId). bound_to spec report.from o) finished ∙ given in
    let is : margin_in spec report ≡ Some (record { frames = pos keeps.bound -ℤ pos (report.end - report.begin); report = report }) =
    ap (λ (o : Option ConfId). margin_to report o (bound_of spec report)) finished ∙ ap (λ (o : Option ℕ). margin_to report (Some to) o) bound in
    record { bound = keeps.bound; given = given; kept = margin_kept spec reports k report _ there is }

-- A line that was flown is the script of a mission, and its facts are assured.

within_assured : ReconfigurationsAreAssured → (spec : Parts) → IsSpec spec → Accepts spec → (line : List ℕ) (script : ScriptParts) (facts : FlightFacts) (outside : Option Outside)
    → script_of spec line ≡ Ok script → first_outside spec script ≡ outside → Flown facts ≡ outcome_within spec script outside → IsAssuredFlight spec line facts
within_assured law spec sound accepts line script facts (Some outside) says leaves same = absurd (let e = same in cc)
within_assured law spec sound accepts line script facts None says leaves same =
    let mission = is_mission spec script accepts (script_of_fits spec line script says) leaves in
    let holds = law spec script sound mission in
    let rows = rows_of spec script in
    let facts_are : facts ≡ facts_of spec rows (reports_of spec script) = let e = same in cc in
    record {
      script = script;
      says = says;
      mission = mission;
      facts_are = facts_are;
      holds = holds;
      margins = λ k report to there finished. rw facts_are (margin_of_finished spec (reports_of spec script) k report to there finished (holds.sp3 k report there));
      gaps = λ a gap below longest. rw facts_are (let first : a ≡ 0 + a = omega arith in gap_kept rows 0 a spec.apps gap below (rw (sym first) longest));
    }

read_assured : ReconfigurationsAreAssured → (spec : Parts) → IsSpec spec → Accepts spec → (line : List ℕ) (facts : FlightFacts) (read : Result ScriptParts DocFault)
    → script_of spec line ≡ read → Flown facts ≡ outcome_read spec read → IsAssuredFlight spec line facts
read_assured law spec sound accepts line facts (Err fault) says same = absurd (let e = same in cc)
read_assured law spec sound accepts line facts (Ok script) says same =
    within_assured law spec sound accepts line script facts (first_outside spec script) says refl same

outcome_assured : ReconfigurationsAreAssured → (spec : Parts) → IsSpec spec → Accepts spec → (line : List ℕ) (facts : FlightFacts) → IsOutcome spec line (Flown facts) → IsAssuredFlight spec line facts
outcome_assured law spec sound accepts line facts (inl same) = read_assured law spec sound accepts line facts (script_of spec line) refl same
outcome_assured law spec sound accepts line facts (inr same) = absurd (let e = same in cc)

-- Lemmas that an answer with status 0 assures all lines of a file.

accepted_zero : (spec : Parts) (scripts : List ℕ) (shown : Option Shown) (text : List ℕ) → UnlessRefused (acceptance_refusal spec shown) (GivesFlights spec scripts) ANSWERED text
    → (shown ≡ None) × GivesFlights spec scripts ANSWERED text
accepted_zero spec scripts (Some shown) text gives = not_zero 5 _ text gives
accepted_zero spec scripts None text told = (refl, told)

series_assured : ReconfigurationsAreAssured → (spec : Parts) → IsSpec spec → (scripts text : List ℕ) → ScriptsAnswers spec scripts ANSWERED text → AreAssuredFlights spec scripts text
series_assured law spec sound scripts text answers =
    let told = accepted_zero spec scripts (first_refusal spec) text answers in
    let accepts = (accepts_iff_unrefused spec sound).accepted told.0 in
    let is = told.1.1 in
    record {
      accepts = accepts;
      outcomes = is.outcomes;
      answers = is.answers;
      whole = is.whole;
      flown = λ k line facts there that.
          outcome_assured law spec sound accepts line facts (outcome_at spec (lines_of scripts) is.outcomes k line (Flown facts) is.answers there that);
      least = margin_total_kept 0 is.outcomes;
      greatest = gap_total_kept 0 is.outcomes;
    }

pub flights_assure : ReconfigurationsAreAssured → (specification scripts : List ℕ) → IsAssuring (FlightsAnswers specification scripts) (AssuresFlights specification scripts)
flights_assure law specification scripts before after reads text is = specification_assures specification _ _
    (λ spec sound. document_assures SaysScripts BreaksNothing MAX_SCRIPTS_BYTES 6 (long_script).1 scripts (λ (bytes : List ℕ). WithoutFiles (ScriptsAnswers spec bytes)) _
    (λ bytes said says before after reads text is. (is.0, series_assured law spec sound bytes text is.1))
    (λ text bytes breaks. absurd breaks))
    before after reads text is
