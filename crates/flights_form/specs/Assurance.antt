-- The assurances that follow from status 0 for a file of scripts.
use Rattle.std.specs.Prelude.{◌≡◌, ℕ, ℤ, ◌<◌, ◌≤◌, ◌-◌, pos, ◌-ℤ◌, ◌≤ℤ◌, List, [], length, slice_get, Option, Some, Ok}
use Rattle.scram_types.specs.Scripts.{ScriptParts}
use Rattle.scram_types.specs.Specification.{Parts, bound_in}
use Rattle.scram_types.specs.declared.rows.Report.{Report}
use Rattle.scram_types.specs.declared.ids.ConfId.{ConfId}
use Rattle.scram_io.specs.Outside.{History}
use Rattle.fault_script.specs.Reading.{script_of}
use Rattle.coverage_check.specs.Acceptance.{Accepts}
use Rattle.coverage_check.specs.Missions.{IsMission, mission_of}
use Rattle.frame_model.specs.Flights.{reports_of, rows_of}
use Rattle.trace_props.specs.Properties.{HoldsAll}
use Rattle.form_base.specs.Assurance.{IsAssuring, OfDocument, OfSpecification}
use Rattle.flight_facts.specs.declared.gaps.Gap.{Gap}
use Rattle.flight_facts.specs.Gaps.{longest_gap}
use Rattle.flights_form.specs.declared.facts.AppGap.{AppGap}
use Rattle.flights_form.specs.declared.facts.FlightFacts.{FlightFacts}
use Rattle.flights_form.specs.declared.facts.Margin.{Margin}
use Rattle.flights_form.specs.declared.outcomes.Outcome.{Outcome}
use Rattle.flights_form.specs.declared.outcomes.Outcome.TheVariants.{Flown}
use Rattle.flights_form.specs.declared.totals.FlightGap.{FlightGap}
use Rattle.flights_form.specs.declared.totals.FlightMargin.{FlightMargin}
use Rattle.flights_form.specs.Answers.{FlightsAnswers, flights_text}
use Rattle.flights_form.specs.Facts.{facts_of}
use Rattle.flights_form.specs.Outcomes.{AreOutcomes}
use Rattle.flights_form.specs.Scripts.{SaysScripts, lines_of}
use Rattle.flights_form.specs.Totals.{totals_of}

-- `told` is a margin of at most `frames` frames.
pub record IsAtMostOf (told : Option Margin) (frames : ℤ) : Type 0 where
  pub margin : Margin
  pub is : told ≡ Some margin
  pub at_most : margin.frames ≤ℤ frames

-- `told` is a gap of at least `frames` frames.
pub record IsAtLeastOf (told : Option AppGap) (frames : ℕ) : Type 0 where
  pub gap : AppGap
  pub is : told ≡ Some gap
  pub at_least : frames ≤ gap.gap.frames

-- `told` is a minimum margin of all flights, and it is at most `frames` frames.
pub record IsAtMostIn (told : Option FlightMargin) (frames : ℤ) : Type 0 where
  pub margin : FlightMargin
  pub is : told ≡ Some margin
  pub at_most : margin.frames ≤ℤ frames

-- `told` is a longest gap of all flights, and it is at least `frames` frames.
pub record IsAtLeastIn (told : Option FlightGap) (frames : ℕ) : Type 0 where
  pub gap : FlightGap
  pub is : told ≡ Some gap
  pub at_least : frames ≤ gap.frames

-- A bound is given for the reconfiguration to the target `to`. The bound minus the number of frames that the
-- reconfiguration took is at least the margin `told`.
pub record KeepsMargin (spec : Parts) (told : Option Margin) (report : Report) (to : ConfId) : Type 0 where
  pub bound : ℕ
  pub given : bound_in spec.bounds report.from.0 to.0 ≡ Some bound
  pub kept : IsAtMostOf told (pos bound -ℤ pos (report.end - report.begin))

-- The line is a script that forms a mission with the specification, and `facts` are the facts of the mission's
-- one-thread flight. The properties of reconfigurations hold for the flight's rows and reports. No finished
-- reconfiguration has a smaller margin than the facts report, and no application has a longer gap.
pub record IsAssuredFlight (spec : Parts) (line : List ℕ) (facts : FlightFacts) : Type 0 where
  pub script : ScriptParts
  pub says : script_of spec line ≡ Ok script
  pub mission : IsMission (mission_of spec script)
  pub facts_are : facts ≡ facts_of spec (rows_of spec script) (reports_of spec script)
  pub holds : HoldsAll spec (rows_of spec script) (reports_of spec script)
  pub margins : (k : ℕ) (report : Report) (to : ConfId) → slice_get (reports_of spec script) k ≡ Some report → report.to ≡ Some to
      → KeepsMargin spec facts.margin report to
  pub gaps : (a : ℕ) (gap : Gap) → a < length spec.apps → longest_gap a 0 (rows_of spec script) ≡ Some gap → IsAtLeastOf facts.gap gap.frames

-- The specification is accepted, there is one outcome for each line, and the text is `flights_text` for the outcomes.
-- Each line that was flown is assured. No line that was flown has a smaller margin or a longer gap than the totals
-- report.
pub record AreAssuredFlights (spec : Parts) (scripts text : List ℕ) : Type 0 where
  pub accepts : Accepts spec
  pub outcomes : List Outcome
  pub answers : AreOutcomes spec (lines_of scripts) outcomes
  pub whole : text ≡ flights_text spec outcomes
  pub flown : (k : ℕ) (line : List ℕ) (facts : FlightFacts) → slice_get (lines_of scripts) k ≡ Some line → slice_get outcomes k ≡ Some (Flown facts)
      → IsAssuredFlight spec line facts
  pub least : (k : ℕ) (facts : FlightFacts) (margin : Margin) → slice_get outcomes k ≡ Some (Flown facts) → facts.margin ≡ Some margin
      → IsAtMostIn (totals_of outcomes).margin margin.frames
  pub greatest : (k : ℕ) (facts : FlightFacts) (gap : AppGap) → slice_get outcomes k ≡ Some (Flown facts) → facts.gap ≡ Some gap
      → IsAtLeastIn (totals_of outcomes).gap gap.gap.frames

-- If `flights` ends with status 0, the flights by the specification in the file `specification` and the scripts in
-- the file `scripts` are assured, and no further file was read.
abbrev pub AssuresFlights : List ℕ → List ℕ → History → List ℕ → Type 0
AssuresFlights specification scripts =
    OfSpecification specification (λ (spec : Parts). OfDocument SaysScripts scripts (λ (bytes : List ℕ) (reads : History) (text : List ℕ).
    (reads ≡ []) × AreAssuredFlights spec bytes text))

-- The assurance `AssuresFlights` follows from each answer of `flights` with status 0.
abbrev pub SeriesAreAssured : Type 0
SeriesAreAssured = (specification scripts : List ℕ) → IsAssuring (FlightsAnswers specification scripts) (AssuresFlights specification scripts)
