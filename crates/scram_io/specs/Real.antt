-- The files of the system and standard output, as contracts see them.
use Rattle.std.specs.Prelude.{ℕ, List, None, false}
use Rattle.scram_io.specs.Outside.{FilesState, History, SinkState}

-- The files of the system: the history of reads and the count of faults.
pub record FilesSeen : Type 0 where
  pub history : History
  pub faults : ℕ

-- The state of the system's files, which are not steady and whose map is not known beforehand.
abbrev pub real_files : FilesSeen → FilesState
real_files seen = record { history = seen.history; known_map = None; steady = false; faults = seen.faults }

-- Standard output: the bytes sent, the bytes held back and the count of faults.
pub record SinkSeen : Type 0 where
  pub sent : List ℕ
  pub held : List ℕ
  pub faults : ℕ

-- The state of standard output. The number of bytes that it is sure to take is not known.
abbrev pub real_sink : SinkSeen → SinkState
real_sink seen = record { sent = seen.sent; held = seen.held; surely = None; faults = seen.faults }
