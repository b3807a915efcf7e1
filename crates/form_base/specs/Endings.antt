-- The result of a form: the files that the form read, its answer, and the part of its text that the sink took.
use Rattle.std.specs.Prelude.{◌≡◌, ◌≢◌, ◌⊎◌, ℕ, ◌≤◌, List, [], ◌∷◌, ◌++◌, length, map, IsTrue, Some, IsSome, IfSome, Result, Ok, Err, ⊤}
use Rattle.scram_io.specs.Outside.{Agrees, FileMap, FilesState, Grew, History, Rose, SinkState, TakesSurely, Took, TookPrefix, Unrisen, file_at, taken}
use Rattle.form_base.specs.declared.refusals.Refusal.{Refusal}
use Rattle.form_base.specs.declared.status.TheConstants.{OUT_OF_MEMORY, UNREAD_FILE, UNWRITTEN_OUTPUT}
use Rattle.form_base.specs.Answers.{Answer}
use Rattle.form_base.specs.Refusals.{memory_line, answer_of}

-- The status and the text are those of an out-of-memory refusal.
abbrev pub IsMemoryRefusal : ℕ → List ℕ → Type 0
IsMemoryRefusal status text = (status ≡ OUT_OF_MEMORY) × (text ≡ memory_line)

-- The files that were read are the first of the named files, each read once, in order.
abbrev pub AreInTurn : List (List ℕ) → History → Type 0
AreInTurn names reads = (rest : List (List ℕ)) × (names ≡ map (λ (read : List ℕ × List ℕ). read.0) reads ++ rest)

-- The map contains a file with each of these names.
abbrev pub AreThere : FileMap → List (List ℕ) → Type 0
AreThere map [] = ⊤
AreThere map (name ∷ names) = IsSome (file_at name map) × AreThere map names

-- If the map is known, the files are steady and the named files exist, the fault count of the files did not rise.
abbrev pub StaysQuiet : List (List ℕ) → FilesState → FilesState → Type 0
StaysQuiet names before after = IfSome before.known_map (λ map. IsTrue before.steady → AreThere map names → Unrisen before.faults after.faults)

-- Either the status and the text are an answer to the reads, or the named files were read in order until the
-- allocator was out of memory. In the second case the status and the text are those of the out-of-memory refusal. A
-- file is reported as unread only if the fault count rose.
pub record Decides (Answers : Answer) (names : List (List ℕ)) (before after : FilesState) (status : ℕ) (text : List ℕ) : Type 0 where
  pub reads : History
  pub grew : Grew before after reads
  pub quiet : StaysQuiet names before after
  pub answer : Answers before after reads status text ⊎ (IsMemoryRefusal status text × AreInTurn names reads)
  pub unread : status ≡ UNREAD_FILE → Rose before.faults after.faults

-- The files that the answer needs were read, in the order of these names. Every status and text that `Rest` allows is
-- an answer to the reads.
pub record IsPrepared (Answers : Answer) (Rest : ℕ → List ℕ → Type 0) (names : List (List ℕ)) (before after : FilesState) : Type 0 where
  pub reads : History
  pub grew : Grew before after reads
  pub quiet : StaysQuiet names before after
  pub turn : AreInTurn names reads
  pub answers : (status : ℕ) (text : List ℕ) → Rest status text → Answers before after reads status text

-- The files of an answer were read. If the result is a value, every status and text that `Rest` allows for the value
-- is an answer. If the result is a refusal, the refusal is the answer.
abbrev pub Prepares : {T : Type 0} → Answer → (T → ℕ → List ℕ → Type 0) → List (List ℕ) → FilesState → FilesState → Result T Refusal → Type 0
Prepares Answers Rest names before after (Ok value) = IsPrepared Answers (Rest value) names before after
Prepares Answers Rest names before after (Err refusal) = Decides Answers names before after (answer_of refusal).0 (answer_of refusal).1

-- A decision was made without reading a file. If the result is a value, every status and text that `Rest` allows for
-- the value is an answer. If the result is a refusal, the refusal is an answer or reports that the allocator was out
-- of memory. The status of the refusal is not `UNREAD_FILE`.
abbrev pub PreparesWithoutFiles : {T : Type 0} → (ℕ → List ℕ → Type 0) → (T → ℕ → List ℕ → Type 0) → Result T Refusal → Type 0
PreparesWithoutFiles Answers Rest (Ok value) = (status : ℕ) (text : List ℕ) → Rest value status text → Answers status text
PreparesWithoutFiles Answers Rest (Err refusal) =
    (Answers (answer_of refusal).0 (answer_of refusal).1 ⊎ IsMemoryRefusal (answer_of refusal).0 (answer_of refusal).1) × ((answer_of refusal).0 ≢ UNREAD_FILE)

-- Either the sink took the text and the code is the status of the text, or the sink failed after it took a prefix of
-- the text and the code is `UNWRITTEN_OUTPUT`.
pub record IsTaken (old new : SinkState) (code status : ℕ) (text : List ℕ) : Type 0 where
  pub shown : ((code ≡ status) × Took old new text) ⊎ ((code ≡ UNWRITTEN_OUTPUT) × TookPrefix old new text × Rose old.faults new.faults)
  pub surely : TakesSurely old new text
  pub count : old.faults ≤ new.faults

-- The text was sent after all bytes that the sink had taken before, and no bytes are held back.
pub record WentOut (old new : SinkState) (text : List ℕ) : Type 0 where
  pub sent : new.sent ≡ taken old ++ text
  pub held : new.held ≡ []

-- The bytes sent are a prefix of the bytes that the sink had taken followed by the text. The sink's fault count rose.
pub record StoppedIn (old new : SinkState) (text : List ℕ) : Type 0 where
  pub rest : List ℕ
  pub parts : taken old ++ text ≡ new.sent ++ rest
  pub rose : Rose old.faults new.faults

-- If the sink is certain to take the whole text, its fault count did not rise.
abbrev pub IsQuietFor : List ℕ → SinkState → SinkState → Type 0
IsQuietFor text old new = IfSome old.surely (λ room. length text ≤ room → Unrisen old.faults new.faults)

-- Either the text was sent and the code is the status of the text, or the sending failed and the code is
-- `UNWRITTEN_OUTPUT`.
pub record IsSent (old new : SinkState) (code status : ℕ) (text : List ℕ) : Type 0 where
  pub shown : ((code ≡ status) × WentOut old new text) ⊎ ((code ≡ UNWRITTEN_OUTPUT) × StoppedIn old new text)
  pub surely : IsQuietFor text old new

-- The sink took a text or a prefix of it. The text is the text of an answer that needs no file, or the out-of-memory
-- line. The status is neither `UNREAD_FILE` nor `UNWRITTEN_OUTPUT`.
pub record PrintsAnswer (Answers : ℕ → List ℕ → Type 0) (old new : SinkState) (code : ℕ) : Type 0 where
  pub status : ℕ
  pub text : List ℕ
  pub answer : Answers status text ⊎ IsMemoryRefusal status text
  pub read : status ≢ UNREAD_FILE
  pub written : status ≢ UNWRITTEN_OUTPUT
  pub taken : IsTaken old new code status text

-- The result of a form that reads the named files in order. The reads decide a status and a text. `Shown` holds for
-- this status and this text, and the status is not `UNWRITTEN_OUTPUT`.
pub record Ends (Answers : Answer) (names : List (List ℕ)) (before after : FilesState) (Shown : ℕ → List ℕ → Type 0) : Type 0 where
  pub status : ℕ
  pub text : List ℕ
  pub decides : Decides Answers names before after status text
  pub written : status ≢ UNWRITTEN_OUTPUT
  pub shown : Shown status text

-- The sink is certain to take the out-of-memory line. It is also certain to take every answer that follows from reads
-- of the map's files without a fault.
pub record HasRoom (Answers : Answer) (map : FileMap) (files : FilesState) (sink : SinkState) : Type 0 where
  pub room : ℕ
  pub told : sink.surely ≡ Some room
  pub answers : (after : FilesState) (reads : History) → Unrisen files.faults after.faults → Agrees map reads
      → (status : ℕ) (text : List ℕ) → Answers files after reads status text → length text ≤ room
  pub memory : length memory_line ≤ room

-- If the map is known, the files are steady, the named files exist and the sink has room, the fault counts of the
-- files and of the sink did not rise.
abbrev pub Completes : Answer → List (List ℕ) → FilesState → FilesState → SinkState → SinkState → Type 0
Completes Answers names before after old new = IfSome before.known_map (λ map. IsTrue before.steady → AreThere map names
    → HasRoom Answers map before old → Unrisen before.faults after.faults × Unrisen old.faults new.faults)
