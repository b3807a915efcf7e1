-- Answers, each with a status and a text that depend on the files that were read.
use Rattle.std.specs.Prelude.{◌≡◌, ◌⊎◌, ℕ, ◌<◌, ◌≤◌, List, [], ◌∷◌, length, IfNone}
use Rattle.scram_io.specs.Outside.{FilesState, Grew, History, Rose}
use Rattle.form_base.specs.declared.status.TheConstants.{UNREAD_FILE}
use Rattle.form_base.specs.Refusals.{read_line}

-- The answer `answered` has the status `status` and the text `text`.
abbrev pub Gives : ℕ × List ℕ → ℕ → List ℕ → Type 0
Gives answered status text = answered ≡ (status, text)

-- An answer: a relation between the states of the files before and after, the reads made between them, a status and a
-- text.
abbrev pub Answer : Type 1
Answer = FilesState → FilesState → History → ℕ → List ℕ → Type 0

-- The status and the text satisfy `Answers`, and no file is read.
abbrev pub WithoutFiles : (ℕ → List ℕ → Type 0) → Answer
WithoutFiles Answers before after reads status text = (reads ≡ []) × Answers status text

-- The file `name` was read first and has at most `limit` bytes. The answer depends on these bytes and on the later
-- reads.
pub record AnswersBytes (limit : ℕ) (name : List ℕ) (Answers : List ℕ → Answer) (before after : FilesState)
    (reads : History) (status : ℕ) (text : List ℕ) : Type 0 where
  pub bytes : List ℕ
  pub rest : History
  pub first : reads ≡ (name, bytes) ∷ rest
  pub fits : length bytes ≤ limit
  pub between : FilesState
  pub grew : Grew before between ((name, bytes) ∷ [])
  pub answers : Answers bytes between after rest status text

-- Only the file `name` was read. It has more than `limit` bytes, and the answer is `long`. If the map of the files is
-- not known, the fault count of the files rose.
pub record AnswersLonger (limit : ℕ) (long : ℕ × List ℕ) (name : List ℕ) (before after : FilesState)
    (reads : History) (status : ℕ) (text : List ℕ) : Type 0 where
  pub bytes : List ℕ
  pub read : reads ≡ (name, bytes) ∷ []
  pub longer : limit < length bytes
  pub counted : IfNone before.known_map (Rose before.faults after.faults)
  pub gives : Gives long status text

-- Reading the file `name` failed. No file was read, the fault count of the files rose, and the answer reports that
-- the file was not read.
abbrev pub AnswersFailed : List ℕ → Answer
AnswersFailed name before after reads status text = (reads ≡ []) × Rose before.faults after.faults × Gives (UNREAD_FILE, read_line name) status text

-- The file `name` was not read or has more than `limit` bytes, and the answer reports which is the case.
abbrev pub AnswersUnread : ℕ → ℕ × List ℕ → List ℕ → Answer
AnswersUnread limit long name before after reads status text =
    AnswersLonger limit long name before after reads status text ⊎ AnswersFailed name before after reads status text

-- The answer to the bytes of the file `name`. If the file was not read or has more than `limit` bytes, the answer
-- reports which is the case.
abbrev pub AnswersFile : ℕ → ℕ × List ℕ → List ℕ → (List ℕ → Answer) → Answer
AnswersFile limit long name Answers before after reads status text =
    AnswersBytes limit name Answers before after reads status text ⊎ AnswersUnread limit long name before after reads status text

-- Either the bytes encode a value and the answer is the answer `Then` to this value, or the bytes break a rule and
-- the answer reports the rule. In the second case no further file is read.
abbrev pub AnswersDocument : {T : Type 0} → (T → List ℕ → Type 0) → (ℕ × List ℕ → List ℕ → Type 0) → (T → Answer) → List ℕ → Answer
AnswersDocument {T} Says Breaks Then bytes before after reads status text =
    ((value : T) × Says value bytes × Then value before after reads status text) ⊎ ((reads ≡ []) × Breaks (status, text) bytes)
