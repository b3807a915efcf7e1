-- Lemmas on the status and the text that are printed for a judgement.
use Rattle.std.proofs.Common.{ℕ, List, ◌∙◌, inl, inr, arith}
use Rattle.scram_types.specs.declared.rows.Flown.{Flown}
use Rattle.scram_types.specs.Specification.{Parts}
use Rattle.scram_io.specs.Outside.{SinkState}
use Rattle.form_base.specs.Endings.{IsTaken, PrintsAnswer}
use Rattle.form_base.proofs.Endings.{given_prints}
use Rattle.trace_forms.specs.declared.judgements.Judgement.{Judgement}
use Rattle.trace_forms.specs.Answers.{IsJudgement}
use Rattle.trace_forms.specs.Verdicts.{GivesJudgement, HasVerdict}

pub judgement_settles : (spec : Parts) (flown : Flown) (judgement : Judgement) → IsJudgement spec flown judgement.code judgement.line
    → (status : ℕ) (text : List ℕ) → GivesJudgement judgement status text → IsJudgement spec flown status text
judgement_settles spec flown judgement is status text gives =
    record { judged = is.judged; judges = is.judges; gives = is.gives ∙ gives }

pub judgement_prints : (judgement : Judgement) (old new : SinkState) (code : ℕ) → HasVerdict judgement → IsTaken old new code judgement.code judgement.line
    → PrintsAnswer (GivesJudgement judgement) old new code
judgement_prints judgement old new code (inl holds) taken =
    given_prints judgement.code judgement.line old new code (λ same. absurd (omega (arith, holds, same))) (λ same. absurd (omega (arith, holds, same))) taken
judgement_prints judgement old new code (inr broken) taken =
    given_prints judgement.code judgement.line old new code (λ same. absurd (omega (arith, broken, same))) (λ same. absurd (omega (arith, broken, same))) taken
