-- The status and the text of a judgement.
use Rattle.std.specs.Prelude.{◌≡◌, ◌⊎◌, ℕ, List}
use Rattle.form_base.specs.declared.status.TheConstants.{ANSWERED, BROKEN_PROPERTY}
use Rattle.form_base.specs.Answers.{Gives}
use Rattle.trace_forms.specs.declared.judgements.Judgement.{Judgement}

-- The status of a judgement reports either that the properties hold or that a property is broken.
abbrev pub HasVerdict : Judgement → Type 0
HasVerdict judgement = (judgement.code ≡ ANSWERED) ⊎ (judgement.code ≡ BROKEN_PROPERTY)

-- The status and the text are those of a judgement.
abbrev pub GivesJudgement : Judgement → ℕ → List ℕ → Type 0
GivesJudgement judgement = Gives (judgement.code, judgement.line)
