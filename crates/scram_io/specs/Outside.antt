-- Files and a sink as contracts see them: the history of reads, and the bytes taken.
use Rattle.std.specs.Prelude.{◌≡◌, ℕ, ◌+◌, ◌-◌, ◌^◌, ◌<◌, ◌≤◌, min, Bool, IsTrue, List, [], ◌∷◌, ◌++◌, length, Option, Some, None, Result, IfNone, IfSome, IsSome, OnOk, OnErr, MatchResult, if◌then◌else◌}
use Rattle.std.specs.List.{AllByRecursion}
use Rattle.std.specs.Str.{bytes_eq}

-- The maximum of a count.
abbrev pub greatest_count : ℕ
greatest_count = 2 ^ 64 - 1

-- The count `n` raised by one, or the maximum if `n` is at the maximum.
abbrev pub counted : ℕ → ℕ
counted n = min (n + 1) greatest_count

-- The count of faults rose, or is at the maximum.
abbrev pub Rose : ℕ → ℕ → Type 0
Rose before now = counted before ≤ now

-- The count of faults did not change, and is below the maximum.
pub record Unrisen (before now : ℕ) : Type 0 where
  pub same : now ≡ before
  pub below : before < greatest_count

-- A map from names to bytes. The first of two entries with the same name counts.
abbrev pub FileMap : Type 0
FileMap = List (List ℕ × List ℕ)

-- The history of the reads that found a file, in order: for each read the name and the bytes read.
abbrev pub History : Type 0
History = List (List ℕ × List ℕ)

-- The bytes of the file with this name, or `None` if the map has no such file.
abbrev pub file_at : List ℕ → FileMap → Option (List ℕ)
file_at name [] = None
file_at name (entry ∷ rest) = if bytes_eq entry.0 name then Some entry.1 else file_at name rest

-- The state of files: the history of reads, the map from names to bytes if it is known beforehand, whether the files
-- are steady, and the count of faults. If the files are steady, a read of a name in the map does not fail.
pub record FilesState : Type 0 where
  pub history : History
  pub known_map : Option FileMap
  pub steady : Bool
  pub faults : ℕ

-- The bytes of each read are the bytes that the map has for the name of the read.
abbrev pub Agrees : FileMap → History → Type 0
Agrees map reads = AllByRecursion (λ (read : List ℕ × List ℕ). file_at read.0 map ≡ Some read.1) reads

-- The history grew by exactly these reads, in order. If the map is known, each read has the bytes of the map. The map
-- did not change, and the count of faults did not fall.
pub record Grew (old new : FilesState) (reads : History) : Type 0 where
  pub history : new.history ≡ old.history ++ reads
  pub known_map : new.known_map ≡ old.known_map
  pub agrees : IfSome old.known_map (λ map. Agrees map reads)
  pub count : old.faults ≤ new.faults

-- The file `name` is longer than `limit` bytes, and more than `limit` of its bytes were read. If the map is known,
-- all of the file's bytes were read; otherwise the count of faults rose.
pub record FoundLonger (old new : FilesState) (name : List ℕ) (limit : ℕ) : Type 0 where
  pub bytes : List ℕ
  pub grew : Grew old new ((name, bytes) ∷ [])
  pub longer : limit < length bytes
  pub counted : IfNone old.known_map (Rose old.faults new.faults)

-- If the files are steady and the map is known and has the name, the read does not raise the count of faults and the
-- files stay steady.
abbrev pub StaysSteady : FilesState → FilesState → List ℕ → Type 0
StaysSteady old new name = IsTrue old.steady → IfSome old.known_map (λ map. IsSome (file_at name map) → Unrisen old.faults new.faults × IsTrue new.steady)

-- The state of a sink: the bytes sent, the bytes held back, the number of further bytes that the sink is sure to take
-- and send (`None` if unknown), and the count of faults.
pub record SinkState : Type 0 where
  pub sent : List ℕ
  pub held : List ℕ
  pub surely : Option ℕ
  pub faults : ℕ

-- The bytes taken so far, in order: the bytes sent, followed by the bytes held back.
abbrev pub taken : SinkState → List ℕ
taken sink = sink.sent ++ sink.held

-- The sink took exactly these bytes.
abbrev pub Took : SinkState → SinkState → List ℕ → Type 0
Took old new bytes = taken new ≡ taken old ++ bytes

-- The sink took a prefix of these bytes.
pub record TookPrefix (old new : SinkState) (bytes : List ℕ) : Type 0 where
  pub front : List ℕ
  pub rest : List ℕ
  pub parts : bytes ≡ front ++ rest
  pub took : Took old new front

-- Let `room` be the number of bytes that the sink was sure to take. If `room` is known and is at least the length of
-- `bytes`, the count of faults did not rise, and the sink is now sure to take `room` less that length.
abbrev pub TakesSurely : SinkState → SinkState → List ℕ → Type 0
TakesSurely old new bytes = IfSome old.surely (λ room. length bytes ≤ room → Unrisen old.faults new.faults × (new.surely ≡ Some (room - length bytes)))

-- The sink took all of the bytes, the count of faults did not fall, and `TakesSurely` holds.
pub record Printed (old new : SinkState) (bytes : List ℕ) : Type 0 where
  pub count : old.faults ≤ new.faults
  pub whole : Took old new bytes
  pub surely : TakesSurely old new bytes

-- The sink failed: it took a prefix of the bytes, and the count of faults rose or is at the maximum. `TakesSurely`
-- holds.
pub record CutOff (old new : SinkState) (bytes : List ℕ) : Type 0 where
  pub count : old.faults ≤ new.faults
  pub prefix : TookPrefix old new bytes
  pub rose : Rose old.faults new.faults
  pub surely : TakesSurely old new bytes

-- The sink took all of the bytes if the result is `Ok`, and it failed after a prefix of them if the result is `Err`.
abbrev pub Prints : {A E : Type 0} → Result A E → SinkState → SinkState → List ℕ → Type 0
Prints result old new bytes = MatchResult result (λ _. Printed old new bytes) (λ _. CutOff old new bytes)

-- The sink neither took nor lost bytes, the count of faults did not fall, and `TakesSurely` holds for the empty list.
pub record Flushed (old new : SinkState) : Type 0 where
  pub same : taken new ≡ taken old
  pub count : old.faults ≤ new.faults
  pub surely : TakesSurely old new []

-- A flush neither takes nor loses bytes. If the result is `Ok`, no bytes are held back. If the result is `Err`, the
-- count of faults rose.
pub record Flushes {A E : Type 0} (result : Result A E) (old new : SinkState) : Type 0 where
  pub kept : Flushed old new
  pub sent : OnOk result (new.held ≡ [])
  pub failed : OnErr result (Rose old.faults new.faults)
