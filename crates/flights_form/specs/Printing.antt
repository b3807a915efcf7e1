-- The text that is printed while a file of scripts is flown.
use Rattle.std.specs.Prelude.{◌≡◌, ℕ, List, ◌++◌, Result, Ok, Err}
use Rattle.scram_types.specs.Specification.{Parts}
use Rattle.scram_io.specs.Outside.{CutOff, Printed, Prints, SinkState}
use Rattle.scram_io.specs.declared.sink.SinkFault.{SinkFault}
use Rattle.flights_form.specs.declared.outcomes.Outcome.{Outcome}
use Rattle.flights_form.specs.declared.series.Series.{Series}
use Rattle.flights_form.specs.declared.totals.Totals.{Totals}
use Rattle.flights_form.specs.Answers.{GivesFlights, flights_text, outcome_line, outcome_lines}
use Rattle.flights_form.specs.Outcomes.{AreOutcomes, IsOutcome}
use Rattle.flights_form.specs.Scripts.{lines_of}
use Rattle.flights_form.specs.Totals.{totals_of, with_outcome}

-- The status and the text are the answer to an accepted specification and a file of scripts.
abbrev pub GivesSeries : Series → ℕ → List ℕ → Type 0
GivesSeries series = GivesFlights series.accepted series.scripts

-- If the sink did not fail, the line for an outcome was printed, and the result is the totals with this outcome.
-- Otherwise, only a prefix of the line may have been printed.
abbrev pub PrintsOutcome : Parts → Totals → Outcome → Result Totals SinkFault → SinkState → SinkState → Type 0
PrintsOutcome spec totals outcome (Ok next) old new = (next ≡ with_outcome totals outcome) × Printed old new (outcome_line spec totals.lines outcome)
PrintsOutcome spec totals outcome (Err fault) old new = CutOff old new (outcome_line spec totals.lines outcome)

-- A line was flown or refused, and the line for its outcome was printed, or cut off if the sink failed.
pub record PrintsLine (spec : Parts) (line : List ℕ) (totals : Totals) (result : Result Totals SinkFault) (old new : SinkState) : Type 0 where
  pub outcome : Outcome
  pub comes : IsOutcome spec line outcome
  pub prints : PrintsOutcome spec totals outcome result old new

-- The lines of a file that precede `rest` were flown, the lines for their outcomes were printed, and `totals` are
-- their totals.
pub record IsFlownTo (spec : Parts) (bytes rest : List ℕ) (totals : Totals) (old new : SinkState) : Type 0 where
  pub front : List (List ℕ)
  pub outcomes : List Outcome
  pub parts : lines_of bytes ≡ front ++ lines_of rest
  pub answers : AreOutcomes spec front outcomes
  pub totals_are : totals ≡ totals_of outcomes
  pub printed : Printed old new (outcome_lines spec 0 outcomes)

-- If the sink did not fail, the lines for all outcomes were printed, and the result is the totals. Otherwise, only a
-- prefix of the lines may have been printed.
abbrev pub PrintsOutcomes : Parts → List Outcome → Result Totals SinkFault → SinkState → SinkState → Type 0
PrintsOutcomes spec outcomes (Ok totals) old new = (totals ≡ totals_of outcomes) × Printed old new (outcome_lines spec 0 outcomes)
PrintsOutcomes spec outcomes (Err fault) old new = CutOff old new (outcome_lines spec 0 outcomes)

-- All lines of a file were flown, and the lines for their outcomes were printed or cut off.
pub record PrintsLines (spec : Parts) (bytes : List ℕ) (result : Result Totals SinkFault) (old new : SinkState) : Type 0 where
  pub outcomes : List Outcome
  pub answers : AreOutcomes spec (lines_of bytes) outcomes
  pub prints : PrintsOutcomes spec outcomes result old new

-- All lines of a file were flown, and the text of their outcomes was printed or cut off.
pub record PrintsFlights {A E : Type 0} (spec : Parts) (bytes : List ℕ) (result : Result A E) (old new : SinkState) : Type 0 where
  pub outcomes : List Outcome
  pub answers : AreOutcomes spec (lines_of bytes) outcomes
  pub prints : Prints result old new (flights_text spec outcomes)
