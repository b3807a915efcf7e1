-- If the command answers with status 0, the assurance of its form holds.
use Rattle.std.proofs.Common.{ℕ, List}
use Rattle.std.specs.Prelude.{Option, Some, None}
use Rattle.form_base.specs.Assurance.{IsAssuring}
use Rattle.form_base.proofs.Assuring.{not_zero, text_of_gives}
use Rattle.explain_form.proofs.Assuring.{explain_assures, explain_script_assures}
use Rattle.faults_form.proofs.Assuring.{faults_assure}
use Rattle.fill_form.proofs.Assuring.{fill_assures}
use Rattle.flights_form.proofs.Assuring.{flights_assure}
use Rattle.spec_forms.proofs.choice_forms.Assuring.{choices_assure, choose_assures}
use Rattle.spec_forms.proofs.Assuring.{bounds_assure, check_assures}
use Rattle.form_base.proofs.trace_files.Viewing.{view_assures}
use Rattle.trace_forms.proofs.Assuring.{props_assure}
use Rattle.trace_forms.specs.summary_form.Summary.{summary_text}
use Rattle.trace_forms.specs.columns_form.Table.{columns_text}
use Rattle.picture_form.specs.Picture.{picture_text}
use Rattle.trace_props.specs.Missions.{ReconfigurationsAreAssured}
use Rattle.flight_forms.specs.Assurance.{FlightsAreAssured}
use Rattle.scram_cli.specs.declared.forms.FlightForm.{FlightForm}
use Rattle.scram_cli.specs.declared.forms.FlightForm.TheVariants.{Run, Watch, Pair, Replay, Faults, Flights, Gen, Fly}
use Rattle.scram_cli.specs.declared.forms.Form.{Form}
use Rattle.scram_cli.specs.declared.forms.Form.TheVariants.{Flight, Specification, Trace, Told}
use Rattle.scram_cli.specs.declared.forms.Look.{Look}
use Rattle.scram_cli.specs.declared.forms.Look.TheVariants.{Props, Summary, Columns, Picture}
use Rattle.scram_cli.specs.declared.forms.SpecificationForm.{SpecificationForm}
use Rattle.scram_cli.specs.declared.forms.SpecificationForm.TheVariants.{Check, Bounds, Explain, ExplainScript, Fill, Choices, Choose}
use Rattle.scram_cli.specs.Answers.{FlightFormAnswers, FormAnswers, LookAnswers, QuestionAnswers}
use Rattle.scram_cli.specs.Assurance.{AssuresFlightForm, AssuresForm, AssuresLook, AssuresQuestion}
use Rattle.scram_cli.specs.Pages.{page_text}

flight_assures : FlightsAreAssured → ReconfigurationsAreAssured → (flight : FlightForm (List ℕ)) → IsAssuring (FlightFormAnswers flight) (AssuresFlightForm flight)
flight_assures law held (Run specification script) before after reads text is = law.run specification script before after reads text is
flight_assures law held (Watch specification script) before after reads text is = law.watch specification script before after reads text is
flight_assures law held (Pair specification script halt) before after reads text is = law.run specification script before after reads text is
flight_assures law held (Replay specification script schedule) before after reads text is = law.replay specification script schedule before after reads text is
flight_assures law held (Faults specification count) before after reads text is = faults_assure specification count before after reads text is
flight_assures law held (Flights specification scripts) before after reads text is = flights_assure held specification scripts before after reads text is
flight_assures law held (Gen number) before after reads text is = law.gen number before after reads text is
flight_assures law held (Fly number) before after reads text is = law.fly number before after reads text is

question_assures : (question : SpecificationForm (List ℕ)) → IsAssuring (QuestionAnswers question) (AssuresQuestion question)
question_assures (Check specification) before after reads text is = check_assures specification before after reads text is
question_assures (Bounds specification) before after reads text is = bounds_assure specification before after reads text is
question_assures (Explain specification) before after reads text is = explain_assures specification before after reads text is
question_assures (ExplainScript specification script) before after reads text is = explain_script_assures specification script before after reads text is
question_assures (Fill specification) before after reads text is = fill_assures specification before after reads text is
question_assures (Choices specification) before after reads text is = choices_assure specification before after reads text is
question_assures (Choose specification conf state) before after reads text is = choose_assures specification conf state before after reads text is

look_assures : (look : Look) (specification trace : List ℕ) → IsAssuring (LookAnswers look specification trace) (AssuresLook look specification trace)
look_assures Props specification trace before after reads text is = props_assure specification trace before after reads text is
look_assures Summary specification trace before after reads text is = view_assures summary_text specification trace before after reads text is
look_assures Columns specification trace before after reads text is = view_assures columns_text specification trace before after reads text is
look_assures Picture specification trace before after reads text is = view_assures picture_text specification trace before after reads text is

pub form_assures : FlightsAreAssured → ReconfigurationsAreAssured → (form : Option (Form (List ℕ))) → IsAssuring (FormAnswers form) (AssuresForm form)
form_assures law held None before after reads text is = not_zero 1 _ text is.1
form_assures law held (Some (Flight flight)) before after reads text is = flight_assures law held flight before after reads text is
form_assures law held (Some (Specification question)) before after reads text is = question_assures question before after reads text is
form_assures law held (Some (Trace look specification trace)) before after reads text is = look_assures look specification trace before after reads text is
form_assures law held (Some (Told page)) before after reads text is = (is.0, text_of_gives (page_text page) text is.1)
