-- The assurance of a form that shows a view follows from each of its answers with status 0.
use Rattle.std.proofs.Common.{ℕ, List, sym}
use Rattle.std.specs.Prelude.{◌≢◌}
use Rattle.scram_types.specs.Specification.{Parts}
use Rattle.scram_types.specs.declared.rows.Flown.{Flown}
use Rattle.scram_types.specs.declared.limits.TheConstants.{MAX_TRACE_BYTES}
use Rattle.form_base.specs.declared.status.TheConstants.{ANSWERED}
use Rattle.form_base.specs.Answers.{Gives, WithoutFiles}
use Rattle.form_base.specs.Assurance.{IsAssuring}
use Rattle.form_base.proofs.Assuring.{document_assures, not_zero, specification_assures, text_of_gives}
use Rattle.form_base.specs.trace_files.Looks.{AssuresView, View, ViewAnswers}
use Rattle.form_base.specs.trace_files.Traces.{BreaksTrace, SaysTrace, long_trace}

pub no_broken_trace : (spec : Parts) (text bytes : List ℕ) → BreaksTrace spec (ANSWERED, text) bytes → ANSWERED ≢ ANSWERED
no_broken_trace spec text bytes breaks = not_zero 10 _ text (sym breaks.line)

pub view_assures : (view : View) (specification trace : List ℕ) → IsAssuring (ViewAnswers view specification trace) (AssuresView view specification trace)
view_assures view specification trace before after reads text is = specification_assures specification _ _
    (λ spec sound. document_assures (SaysTrace spec) (BreaksTrace spec) MAX_TRACE_BYTES 10 (long_trace).1 trace
    (λ (flown : Flown). WithoutFiles (Gives (ANSWERED, view spec flown.rows flown.reports))) _
    (λ flown bytes says before after reads text is. (is.0, text_of_gives (view spec flown.rows flown.reports) text is.1))
    (no_broken_trace spec))
    before after reads text is
