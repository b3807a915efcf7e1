-- The answers of the form `props`.
use Rattle.std.specs.Prelude.{◌≡◌, ℕ, List, [], Option, Some, None}
use Rattle.scram_types.specs.declared.rows.Flown.{Flown}
use Rattle.scram_types.specs.Specification.{Parts}
use Rattle.scram_io.specs.Outside.{History}
use Rattle.trace_props.specs.declared.breaks.Broken.{Broken}
use Rattle.trace_props.specs.Breaks.{IsFirstBreak}
use Rattle.trace_props.specs.Properties.{HoldsAll}
use Rattle.form_base.specs.declared.status.TheConstants.{ANSWERED, BROKEN_PROPERTY}
use Rattle.form_base.specs.Answers.{Answer, Gives, WithoutFiles}
use Rattle.form_base.specs.Assurance.{OfDocument, OfSpecification}
use Rattle.form_base.specs.Specifications.{AsksSpecification}
use Rattle.form_base.specs.trace_files.Traces.{AsksTrace, SaysTrace}
use Rattle.trace_forms.specs.Lines.{broken_line, holds_line}

-- The value is the first break of a property by a trace, or `None` if all properties hold for the trace.
abbrev pub Judges : Parts → Flown → Option Broken → Type 0
Judges spec flown None = HoldsAll spec flown.rows flown.reports
Judges spec flown (Some broken) = IsFirstBreak spec flown.rows flown.reports broken.property broken.frame

-- The status and the text with which `props` answers, given the first break of a property, or `None` if all
-- properties hold.
abbrev pub judged_answer : Flown → Option Broken → ℕ × List ℕ
judged_answer flown (Some broken) = (BROKEN_PROPERTY, broken_line broken)
judged_answer flown None = (ANSWERED, holds_line flown)

-- The status and the text are those of the judgement of a trace.
pub record IsJudgement (spec : Parts) (flown : Flown) (status : ℕ) (text : List ℕ) : Type 0 where
  pub judged : Option Broken
  pub judges : Judges spec flown judged
  pub gives : Gives (judged_answer flown judged) status text

-- The answer of `props`, given the names of the specification's file and the trace's file. The specification need not
-- be accepted.
abbrev pub PropsAnswers : List ℕ → List ℕ → Answer
PropsAnswers specification trace =
    AsksSpecification specification (λ (spec : Parts). AsksTrace spec trace (λ (flown : Flown). WithoutFiles (IsJudgement spec flown)))

-- If `props` ends with status 0, the properties hold for the trace, the text is the line that reports this, and no
-- further file was read.
abbrev pub AssuresProps : List ℕ → List ℕ → History → List ℕ → Type 0
AssuresProps specification trace =
    OfSpecification specification (λ (spec : Parts). OfDocument (SaysTrace spec) trace (λ (flown : Flown) (reads : History) (text : List ℕ).
    (reads ≡ []) × HoldsAll spec flown.rows flown.reports × (text ≡ holds_line flown)))
