-- The assurances of status 0: facts about the files that were read and the text that was written.
use Rattle.std.specs.Prelude.{◌≡◌, ℕ, List, [], Option, Some, None}
use Rattle.scram_io.specs.Outside.{History}
use Rattle.spec_forms.specs.Answers.{AssuresBounds, AssuresCheck}
use Rattle.form_base.specs.trace_files.Looks.{AssuresView}
use Rattle.explain_form.specs.Answers.{AssuresExplain, AssuresExplainScript}
use Rattle.faults_form.specs.Answers.{AssuresFaults}
use Rattle.fill_form.specs.Answers.{AssuresFill}
use Rattle.flights_form.specs.Assurance.{AssuresFlights}
use Rattle.spec_forms.specs.choice_forms.Answers.{AssuresChoices, AssuresChoose}
use Rattle.trace_forms.specs.Answers.{AssuresProps}
use Rattle.trace_forms.specs.summary_form.Summary.{summary_text}
use Rattle.trace_forms.specs.columns_form.Table.{columns_text}
use Rattle.picture_form.specs.Picture.{picture_text}
use Rattle.flight_forms.specs.Assurance.{AssuresFly, AssuresGen, AssuresReplay, AssuresRun, AssuresWatch}
use Rattle.scram_cli.specs.declared.forms.FlightForm.{FlightForm}
use Rattle.scram_cli.specs.declared.forms.FlightForm.TheVariants.{Run, Watch, Pair, Replay, Faults, Flights, Gen, Fly}
use Rattle.scram_cli.specs.declared.forms.Form.{Form}
use Rattle.scram_cli.specs.declared.forms.Form.TheVariants.{Flight, Specification, Trace, Told}
use Rattle.scram_cli.specs.declared.forms.Look.{Look}
use Rattle.scram_cli.specs.declared.forms.Look.TheVariants.{Props, Summary, Columns, Picture}
use Rattle.scram_cli.specs.declared.forms.SpecificationForm.{SpecificationForm}
use Rattle.scram_cli.specs.declared.forms.SpecificationForm.TheVariants.{Check, Bounds, Explain, ExplainScript, Fill, Choices, Choose}
use Rattle.scram_cli.specs.Pages.{page_text}

-- The assurance of status 0 for a form about flights.
abbrev pub AssuresFlightForm : FlightForm (List ℕ) → History → List ℕ → Type 0
AssuresFlightForm (Run specification script) = AssuresRun specification script
AssuresFlightForm (Watch specification script) = AssuresWatch specification script
AssuresFlightForm (Pair specification script halt) = AssuresRun specification script
AssuresFlightForm (Replay specification script schedule) = AssuresReplay specification script schedule
AssuresFlightForm (Faults specification count) = AssuresFaults specification count
AssuresFlightForm (Flights specification scripts) = AssuresFlights specification scripts
AssuresFlightForm (Gen number) = AssuresGen number
AssuresFlightForm (Fly number) = AssuresFly number

-- The assurance of status 0 for a question about a specification.
abbrev pub AssuresQuestion : SpecificationForm (List ℕ) → History → List ℕ → Type 0
AssuresQuestion (Check specification) = AssuresCheck specification
AssuresQuestion (Bounds specification) = AssuresBounds specification
AssuresQuestion (Explain specification) = AssuresExplain specification
AssuresQuestion (ExplainScript specification script) = AssuresExplainScript specification script
AssuresQuestion (Fill specification) = AssuresFill specification
AssuresQuestion (Choices specification) = AssuresChoices specification
AssuresQuestion (Choose specification conf state) = AssuresChoose specification conf state

-- The assurance of status 0 for a look at a trace.
abbrev pub AssuresLook : Look → List ℕ → List ℕ → History → List ℕ → Type 0
AssuresLook Props = AssuresProps
AssuresLook Summary = AssuresView summary_text
AssuresLook Columns = AssuresView columns_text
AssuresLook Picture = AssuresView picture_text

-- The assurance of status 0 for a form. For `None`, it is false, since the command never ends with status 0 if the
-- words have no form.
abbrev pub AssuresForm : Option (Form (List ℕ)) → History → List ℕ → Type 0
AssuresForm None reads text = ⊥
AssuresForm (Some (Flight flight)) reads text = AssuresFlightForm flight reads text
AssuresForm (Some (Specification question)) reads text = AssuresQuestion question reads text
AssuresForm (Some (Trace look specification trace)) reads text = AssuresLook look specification trace reads text
AssuresForm (Some (Told page)) reads text = (reads ≡ []) × (text ≡ page_text page)
