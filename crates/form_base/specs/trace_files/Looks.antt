-- The answers of the forms that show a trace without judging it.
use Rattle.std.specs.Prelude.{◌≡◌, ◌<◌, ◌^◌, ℕ, List, [], length}
use Rattle.scram_types.specs.declared.rows.Flown.{Flown}
use Rattle.scram_types.specs.declared.rows.Report.{Report}
use Rattle.scram_types.specs.declared.rows.Row.{Row}
use Rattle.scram_types.specs.Specification.{Parts}
use Rattle.scram_io.specs.Outside.{History}
use Rattle.form_base.specs.declared.status.TheConstants.{ANSWERED}
use Rattle.form_base.specs.Answers.{Answer, Gives, WithoutFiles}
use Rattle.form_base.specs.Assurance.{OfDocument, OfSpecification}
use Rattle.form_base.specs.Specifications.{AsksSpecification}
use Rattle.form_base.specs.declared.trace_files.files.Flight.{Flight}
use Rattle.form_base.specs.trace_files.Traces.{AsksTrace, SaysTrace}

-- A function that returns the text to print for a specification and the rows and reports of a flight.
abbrev pub View : Type 0
View = Parts → List Row → List Report → List ℕ

-- The answer of a form that shows a view, given the name of the specification's file and the name of the trace's
-- file. The specification need not be accepted.
abbrev pub ViewAnswers : View → List ℕ → List ℕ → Answer
ViewAnswers view specification trace =
    AsksSpecification specification (λ (spec : Parts). AsksTrace spec trace (λ (flown : Flown).
    WithoutFiles (Gives (ANSWERED, view spec flown.rows flown.reports))))

-- If a form that shows a view ends with status 0, the text is the view of the trace, and no further file was read.
abbrev pub AssuresView : View → List ℕ → List ℕ → History → List ℕ → Type 0
AssuresView view specification trace =
    OfSpecification specification (λ (spec : Parts). OfDocument (SaysTrace spec) trace (λ (flown : Flown) (reads : History) (text : List ℕ).
    (reads ≡ []) × (text ≡ view spec flown.rows flown.reports)))

-- The status is 0, and the text is the view of a flight.
abbrev pub GivesView : View → Flight → ℕ → List ℕ → Type 0
GivesView view flight = Gives (ANSWERED, view flight.spec flight.flown.rows flight.flown.reports)

-- A flight has fewer than `2 ^ 32` rows and fewer than `2 ^ 32` reports.
abbrev pub IsCounted : Flight → Type 0
IsCounted flight = (length flight.flown.rows < 2 ^ 32) × (length flight.flown.reports < 2 ^ 32)
