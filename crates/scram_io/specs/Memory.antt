-- Files and a sink in memory: their state, and the effects of calls on them.
use Rattle.std.specs.Prelude.{ℕ, ◌+◌, ◌-◌, nat_eq, nat_lt, nat_le, Bool, not, ◌&&◌, ◌||◌, List, [], ◌∷◌, ◌++◌, length, Option, Some, None, Result, Ok, Err, if◌then◌else◌, is_none}
use Rattle.std.specs.List.{list_any}
use Rattle.scram_io.specs.Outside.{FileMap, FilesState, History, SinkState, file_at, counted, greatest_count}
use Rattle.scram_io.specs.declared.files.ReadFault.{ReadFault}
use Rattle.scram_io.specs.declared.files.ReadFault.TheVariants.{Failed, TooLong}

-- The number of the call is listed in `failing`.
abbrev pub is_listed : List ℕ → ℕ → Bool
is_listed failing call = list_any (λ (n : ℕ). nat_eq n call) failing

-- Files in memory: the history of reads, the map from names to bytes, the numbers of the reads that are to fail, the
-- number of reads and the number of faults.
pub record FilesHeld : Type 0 where
  pub history : History
  pub map : FileMap
  pub failing : List ℕ
  pub reads : ℕ
  pub faults : ℕ

-- Files in memory with this map, before the first read. The reads whose numbers are in `failing` are to fail.
abbrev pub unread_files : FileMap → List ℕ → FilesHeld
unread_files map failing = record { history = []; map = map; failing = failing; reads = 0; faults = 0 }

-- The state of files in memory, in the form that all kinds of files share. The files are steady if no read is to fail
-- and the count of faults is below the maximum.
abbrev pub files_state : FilesHeld → FilesState
files_state held = record {
  history = held.history;
  known_map = Some held.map;
  steady = nat_eq (length held.failing) 0 && nat_lt held.faults greatest_count;
  faults = held.faults;
}

-- The result of a read of at most `limit` bytes. The last argument is the bytes of the file, or `None` if there is no
-- such file.
abbrev pub within_limit : ℕ → Option (List ℕ) → Result (List ℕ) ReadFault
within_limit limit None = Err Failed
within_limit limit (Some bytes) = if nat_le (length bytes) limit then Ok bytes else Err TooLong

-- The result of the next read if memory does not run out. The read is of file `name` and of at most `limit` bytes.
abbrev pub read_of : FilesHeld → List ℕ → ℕ → Result (List ℕ) ReadFault
read_of held name limit = if is_listed held.failing held.reads then Err Failed else within_limit limit (file_at name held.map)

-- The next read, of file `name`, fails: its number is listed or no file has the name.
abbrev pub read_fails : FilesHeld → List ℕ → Bool
read_fails held name = is_listed held.failing held.reads || is_none (file_at name held.map)

-- The history of one read of file `name`: an entry with the name and the bytes, or no entry if the bytes are `None`.
abbrev pub found_as : List ℕ → Option (List ℕ) → History
found_as name None = []
found_as name (Some bytes) = (name, bytes) ∷ []

-- The entry of the history for the next read, of file `name`, or no entry if the read fails. A file longer than the
-- limit has an entry too.
abbrev pub found_by : FilesHeld → List ℕ → History
found_by held name = if is_listed held.failing held.reads then [] else found_as name (file_at name held.map)

-- The files after a read of file `name` that adds the entries `read` to the history.
abbrev pub after_read : FilesHeld → List ℕ → History → FilesHeld
after_read held name read = record held {
  history = held.history ++ read;
  reads = counted held.reads;
  faults = if read_fails held name then counted held.faults else held.faults;
}

-- A sink in memory: the bytes taken, the capacity, the numbers of the puts that are to fail, the number of puts and
-- the number of faults.
pub record SinkHeld : Type 0 where
  pub bytes : List ℕ
  pub room : ℕ
  pub failing : List ℕ
  pub puts : ℕ
  pub faults : ℕ

-- A sink with a capacity of `room` bytes, before the first put. The puts whose numbers are in `failing` are to fail.
abbrev pub empty_sink : ℕ → List ℕ → SinkHeld
empty_sink room failing = record { bytes = []; room = room; failing = failing; puts = 0; faults = 0 }

-- The next put takes these bytes: its number is not listed, and the bytes fit the capacity.
abbrev pub put_takes : SinkHeld → List ℕ → Bool
put_takes held bytes = not (is_listed held.failing held.puts) && nat_le (length held.bytes + length bytes) held.room

-- The sink after a put of these bytes. If the put does not take the bytes, the count of faults rises.
abbrev pub after_put : SinkHeld → List ℕ → SinkHeld
after_put held bytes =
    if put_takes held bytes then record held { bytes = held.bytes ++ bytes; puts = counted held.puts }
    else record held { puts = counted held.puts; faults = counted held.faults }

-- The number of further bytes that the sink is sure to take, or `None` if some put is to fail or the count of faults
-- is at the maximum.
abbrev pub surely_takes : SinkHeld → Option ℕ
surely_takes held = if nat_eq (length held.failing) 0 && nat_lt held.faults greatest_count then Some (held.room - length held.bytes) else None

-- The state of a sink in memory, in the form that all kinds of sinks share. The sink holds no bytes back.
abbrev pub sink_state : SinkHeld → SinkState
sink_state held = record { sent = held.bytes; held = []; surely = surely_takes held; faults = held.faults }
