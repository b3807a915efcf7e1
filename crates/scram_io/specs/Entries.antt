-- The entries of files in memory, as lists of bytes.
use Rattle.std.specs.Prelude.{ℕ, List, map, string_bytes, String}
use Rattle.std.specs.Prelude.{Vec}
use Rattle.scram_io.specs.Outside.{FileMap}

-- The names and the bytes of the entries, as lists of bytes.
abbrev pub entries_of : {A B : Type 0} → List (String A × Vec ℕ B) → FileMap
entries_of entries = map (λ entry. (string_bytes entry.0, entry.1.items)) entries
