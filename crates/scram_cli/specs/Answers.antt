-- The answers of the command. An answer is a status and a text, which depend on the words of the command and on the
-- bytes of the files that the words name.
use Rattle.std.specs.Prelude.{ℕ, List, Option, Some, None, codes}
use Rattle.form_base.specs.declared.status.TheConstants.{ANSWERED, BROKEN_USAGE}
use Rattle.form_base.specs.Answers.{Answer, Gives, WithoutFiles}
use Rattle.spec_forms.specs.Answers.{BoundsAnswers, CheckAnswers}
use Rattle.form_base.specs.trace_files.Looks.{ViewAnswers}
use Rattle.explain_form.specs.Answers.{ExplainAnswers, ExplainScriptAnswers}
use Rattle.faults_form.specs.Answers.{FaultsAnswers}
use Rattle.fill_form.specs.Answers.{FillAnswers}
use Rattle.flights_form.specs.Answers.{FlightsAnswers}
use Rattle.spec_forms.specs.choice_forms.Answers.{ChoicesAnswers, ChooseAnswers}
use Rattle.trace_forms.specs.Answers.{PropsAnswers}
use Rattle.trace_forms.specs.summary_form.Summary.{summary_text}
use Rattle.trace_forms.specs.columns_form.Table.{columns_text}
use Rattle.picture_form.specs.Picture.{picture_text}
use Rattle.flight_forms.specs.Answers.{FlyAnswers, GenAnswers, PairAnswers, ReplayAnswers, RunAnswers, WatchAnswers}
use Rattle.scram_cli.specs.declared.forms.FlightForm.{FlightForm}
use Rattle.scram_cli.specs.declared.forms.FlightForm.TheVariants.{Run, Watch, Pair, Replay, Faults, Flights, Gen, Fly}
use Rattle.scram_cli.specs.declared.forms.Form.{Form}
use Rattle.scram_cli.specs.declared.forms.Form.TheVariants.{Flight, Specification, Trace, Told}
use Rattle.scram_cli.specs.declared.forms.Look.{Look}
use Rattle.scram_cli.specs.declared.forms.Look.TheVariants.{Props, Summary, Columns, Picture}
use Rattle.scram_cli.specs.declared.forms.SpecificationForm.{SpecificationForm}
use Rattle.scram_cli.specs.declared.forms.SpecificationForm.TheVariants.{Check, Bounds, Explain, ExplainScript, Fill, Choices, Choose}
use Rattle.scram_cli.specs.Pages.{page_text}

-- The line that refuses words that have no form.
abbrev pub usage_line : List ℕ
usage_line = codes "refused: usage\n"

-- The answer to a form about flights.
abbrev pub FlightFormAnswers : FlightForm (List ℕ) → Answer
FlightFormAnswers (Run specification script) = RunAnswers specification script
FlightFormAnswers (Watch specification script) = WatchAnswers specification script
FlightFormAnswers (Pair specification script halt) = PairAnswers specification script
FlightFormAnswers (Replay specification script schedule) = ReplayAnswers specification script schedule
FlightFormAnswers (Faults specification count) = FaultsAnswers specification count
FlightFormAnswers (Flights specification scripts) = FlightsAnswers specification scripts
FlightFormAnswers (Gen number) = WithoutFiles (GenAnswers number)
FlightFormAnswers (Fly number) = WithoutFiles (FlyAnswers number)

-- The answer to a question about a specification.
abbrev pub QuestionAnswers : SpecificationForm (List ℕ) → Answer
QuestionAnswers (Check specification) = CheckAnswers specification
QuestionAnswers (Bounds specification) = BoundsAnswers specification
QuestionAnswers (Explain specification) = ExplainAnswers specification
QuestionAnswers (ExplainScript specification script) = ExplainScriptAnswers specification script
QuestionAnswers (Fill specification) = FillAnswers specification
QuestionAnswers (Choices specification) = ChoicesAnswers specification
QuestionAnswers (Choose specification conf state) = ChooseAnswers specification conf state

-- The answer to a look at a trace, given the names of the specification's file and the trace's file.
abbrev pub LookAnswers : Look → List ℕ → List ℕ → Answer
LookAnswers Props specification trace = PropsAnswers specification trace
LookAnswers Summary specification trace = ViewAnswers summary_text specification trace
LookAnswers Columns specification trace = ViewAnswers columns_text specification trace
LookAnswers Picture specification trace = ViewAnswers picture_text specification trace

-- The answer to a form. For `None`, it is the refusal of words that have no form. The files that a form needs are
-- read once each, in their order, and no other file is read.
abbrev pub FormAnswers : Option (Form (List ℕ)) → Answer
FormAnswers None = WithoutFiles (Gives (BROKEN_USAGE, usage_line))
FormAnswers (Some (Flight flight)) = FlightFormAnswers flight
FormAnswers (Some (Specification question)) = QuestionAnswers question
FormAnswers (Some (Trace look specification trace)) = LookAnswers look specification trace
FormAnswers (Some (Told page)) = WithoutFiles (Gives (ANSWERED, page_text page))
