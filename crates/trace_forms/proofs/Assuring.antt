-- The assurance of `props` follows from each of its answers with status 0.
use Rattle.std.proofs.Common.{◌≡◌, ℕ, List}
use Rattle.std.specs.Prelude.{Option, Some, None}
use Rattle.scram_types.specs.declared.rows.Flown.{Flown}
use Rattle.scram_types.specs.declared.limits.TheConstants.{MAX_TRACE_BYTES}
use Rattle.scram_types.specs.Specification.{Parts}
use Rattle.trace_props.specs.declared.breaks.Broken.{Broken}
use Rattle.trace_props.specs.Properties.{HoldsAll}
use Rattle.form_base.specs.declared.status.TheConstants.{ANSWERED}
use Rattle.form_base.specs.Answers.{Gives, WithoutFiles}
use Rattle.form_base.specs.Assurance.{IsAssuring}
use Rattle.form_base.proofs.Assuring.{document_assures, not_zero, specification_assures, text_of_gives}
use Rattle.form_base.specs.trace_files.Traces.{BreaksTrace, SaysTrace, long_trace}
use Rattle.form_base.proofs.trace_files.Viewing.{no_broken_trace}
use Rattle.trace_forms.specs.Answers.{AssuresProps, IsJudgement, Judges, PropsAnswers, judged_answer}
use Rattle.trace_forms.specs.Lines.{holds_line}

judged_zero : (spec : Parts) (flown : Flown) (judged : Option Broken) (text : List ℕ) → Judges spec flown judged → Gives (judged_answer flown judged) ANSWERED text
    → HoldsAll spec flown.rows flown.reports × (text ≡ holds_line flown)
judged_zero spec flown (Some broken) text judges gives = not_zero 9 _ text gives
judged_zero spec flown None text judges gives = (judges, text_of_gives (holds_line flown) text gives)

pub props_assure : (specification trace : List ℕ) → IsAssuring (PropsAnswers specification trace) (AssuresProps specification trace)
props_assure specification trace before after reads text is = specification_assures specification _ _
    (λ spec sound. document_assures (SaysTrace spec) (BreaksTrace spec) MAX_TRACE_BYTES 10 (long_trace).1 trace (λ (flown : Flown). WithoutFiles (IsJudgement spec flown)) _
    (λ flown bytes says before after reads text is. let told = judged_zero spec flown is.1.judged text is.1.judges is.1.gives in (is.0, told.0, told.1))
    (no_broken_trace spec))
    before after reads text is
