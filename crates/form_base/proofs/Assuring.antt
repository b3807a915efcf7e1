-- Lemmas on the assurance that follows from an answer with status 0.
use Rattle.std.proofs.Common.{◌≡◌, ℕ, suc, List, ◌∷◌, refl, sym, ap, inl, inr, arith}
use Rattle.std.specs.Prelude.{◌≢◌}
use Rattle.scram_types.specs.Specification.{IsSpec, Parts}
use Rattle.scram_types.specs.declared.limits.TheConstants.{MAX_SPECIFICATION_BYTES}
use Rattle.scram_io.specs.Outside.{FilesState, History}
use Rattle.form_base.specs.declared.status.TheConstants.{ANSWERED}
use Rattle.form_base.specs.Answers.{Answer, AnswersDocument, AnswersFile, Gives}
use Rattle.form_base.specs.Assurance.{IsAssuring, OfDocument, OfSpecification}
use Rattle.form_base.specs.Specifications.{AsksSpecification, BreaksSpecification, SaysSpecification, long_specification}

-- No answer with the status `suc n` has status 0.
pub not_zero : {P : Type 0} (n : ℕ) (line text : List ℕ) → Gives (suc n, line) ANSWERED text → P
not_zero n line text gives = let same : suc n ≡ ANSWERED = ap (λ (a : ℕ × List ℕ). a.0) gives in absurd (omega (arith, same))

pub text_of_gives : (line text : List ℕ) → Gives (ANSWERED, line) ANSWERED text → text ≡ line
text_of_gives line text gives = sym (ap (λ (a : ℕ × List ℕ). a.1) gives)

document_assures_by : {T : Type 0} (Says : T → List ℕ → Type 0) (Breaks : ℕ × List ℕ → List ℕ → Type 0) (name : List ℕ) (Then : T → Answer) (Assures : T → History → List ℕ → Type 0)
    → ((value : T) (bytes : List ℕ) → Says value bytes → IsAssuring (Then value) (Assures value))
    → ((text bytes : List ℕ) → Breaks (ANSWERED, text) bytes → ANSWERED ≢ ANSWERED)
    → (bytes : List ℕ) (before after : FilesState) (rest reads : History) (text : List ℕ) → reads ≡ (name, bytes) ∷ rest
    → AnswersDocument Says Breaks Then bytes before after rest ANSWERED text → OfDocument Says name Assures reads text
document_assures_by {T} Says Breaks name Then Assures law never bytes before after rest reads text first (inl is) =
    record { bytes = bytes; rest = rest; read = first; value = is.0; says = is.1; assured = law is.0 bytes is.1 before after rest text is.2 }
document_assures_by {T} Says Breaks name Then Assures law never bytes before after rest reads text first (inr is) = absurd (never text bytes is.1 refl)

-- Let the assurance follow from each answer of status 0 to a document's value, and let no refusal of the document
-- have status 0. Then the assurance follows from each answer of status 0 to the document's file.
pub document_assures : {T : Type 0} (Says : T → List ℕ → Type 0) (Breaks : ℕ × List ℕ → List ℕ → Type 0) (limit n : ℕ) (line name : List ℕ) (Then : T → Answer) (Assures : T → History → List ℕ → Type 0)
    → ((value : T) (bytes : List ℕ) → Says value bytes → IsAssuring (Then value) (Assures value))
    → ((text bytes : List ℕ) → Breaks (ANSWERED, text) bytes → ANSWERED ≢ ANSWERED)
    → IsAssuring (AnswersFile limit (suc n, line) name (AnswersDocument Says Breaks Then)) (OfDocument Says name Assures)
document_assures {T} Says Breaks limit n line name Then Assures law never before after reads text (inl is) =
    document_assures_by Says Breaks name Then Assures law never is.bytes is.between after is.rest reads text is.first is.answers
document_assures {T} Says Breaks limit n line name Then Assures law never before after reads text (inr (inl is)) = not_zero n line text is.gives
document_assures {T} Says Breaks limit n line name Then Assures law never before after reads text (inr (inr is)) = not_zero 2 _ text is.2

no_broken_specification : (text bytes : List ℕ) → BreaksSpecification (ANSWERED, text) bytes → ANSWERED ≢ ANSWERED
no_broken_specification text bytes breaks = not_zero 4 _ text (sym breaks.line)

-- If the assurance follows from each answer of status 0 to a specification, it follows from each answer of status 0
-- to the specification's file.
pub specification_assures : (name : List ℕ) (Then : Parts → Answer) (Assures : Parts → History → List ℕ → Type 0)
    → ((spec : Parts) → IsSpec spec → IsAssuring (Then spec) (Assures spec)) → IsAssuring (AsksSpecification name Then) (OfSpecification name Assures)
specification_assures name Then Assures law before after reads text is =
    document_assures SaysSpecification BreaksSpecification MAX_SPECIFICATION_BYTES 4 (long_specification).1 name Then Assures
    (λ spec bytes says. law spec says.sound) no_broken_specification before after reads text is
