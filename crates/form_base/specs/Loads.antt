-- The results of loading a file.
use Rattle.std.specs.Prelude.{◌≡◌, ◌⊎◌, ◌≤◌, ℕ, [], ◌∷◌, ⊤, List, length, Result, Ok, Err, IfErr}
use Rattle.scram_io.specs.Outside.{FilesState, FoundLonger, Grew, Rose}
use Rattle.form_base.specs.declared.refusals.Refusal.{Refusal}
use Rattle.form_base.specs.declared.status.TheConstants.{OUT_OF_MEMORY, UNREAD_FILE}
use Rattle.form_base.specs.Refusals.{memory_line, read_line, answer_of}

-- Only the file `name` was read. It has at most `limit` bytes, and `Fact` holds for the bytes.
pub record HasRead (limit : ℕ) (name : List ℕ) (Fact : List ℕ → Type 0) (before after : FilesState) : Type 0 where
  pub bytes : List ℕ
  pub grew : Grew before after ((name, bytes) ∷ [])
  pub fits : length bytes ≤ limit
  pub fact : Fact bytes

-- The refusal reports that the allocator was out of memory.
abbrev pub IsOutOfMemory : ℕ × List ℕ → Type 0
IsOutOfMemory refusal = refusal ≡ (OUT_OF_MEMORY, memory_line)

-- The result of reading bytes is a value that the bytes encode, or a refusal. The refusal reports a broken rule, or
-- that the allocator was out of memory.
abbrev pub ReadsAs : {T : Type 0} → (T → List ℕ → Type 0) → (ℕ × List ℕ → List ℕ → Type 0) → List ℕ → Result T Refusal → Type 0
ReadsAs Says Breaks bytes (Ok value) = Says value bytes
ReadsAs Says Breaks bytes (Err refusal) = Breaks (answer_of refusal) bytes ⊎ IsOutOfMemory (answer_of refusal)

-- The refusal gives the reason why the file `name` was not loaded. Either the file breaks a rule, is too long or was
-- not read, or the allocator was out of memory before or after the reading.
abbrev pub IsUnloaded : (ℕ × List ℕ → List ℕ → Type 0) → ℕ → ℕ × List ℕ → List ℕ → FilesState → FilesState → ℕ × List ℕ → Type 0
IsUnloaded Breaks limit long name before after refusal =
    HasRead limit name (Breaks refusal) before after
    ⊎ (FoundLonger before after name limit × (refusal ≡ long))
    ⊎ (Grew before after [] × Rose before.faults after.faults × (refusal ≡ (UNREAD_FILE, read_line name)))
    ⊎ ((Grew before after [] ⊎ HasRead limit name (λ (bytes : List ℕ). ⊤) before after) × IsOutOfMemory refusal)

-- The result of loading a file is a value that the bytes of the file encode, or the refusal with the reason why the
-- file was not loaded.
abbrev pub Loads : {T : Type 0} → (T → List ℕ → Type 0) → (ℕ × List ℕ → List ℕ → Type 0) → ℕ → ℕ × List ℕ → List ℕ
    → FilesState → FilesState → Result T Refusal → Type 0
Loads Says Breaks limit long name before after (Ok value) = HasRead limit name (Says value) before after
Loads Says Breaks limit long name before after (Err refusal) = IsUnloaded Breaks limit long name before after (answer_of refusal)

-- If a file was refused because it could not be read, the fault count of the files rose.
abbrev pub UnreadIsFault : {A : Type 0} → FilesState → FilesState → Result A Refusal → Type 0
UnreadIsFault before after result = IfErr result (λ (refusal : Refusal). (answer_of refusal).0 ≡ UNREAD_FILE → Rose before.faults after.faults)
