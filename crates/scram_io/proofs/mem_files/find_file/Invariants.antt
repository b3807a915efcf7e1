-- The first entry with the name among the remaining entries is the first such entry of the whole list.
use Rattle.std.proofs.Common.{◌≡◌, drop}
use Rattle.scram_io.specs.Outside.{file_at}
use Rattle.scram_io.specs.Entries.{entries_of}
use Rattle.scram_io.proofs.mem_files.find_file.Given as goal

abbrev pub invariant-loop-entry : goal.invariant-loop-entry
invariant-loop-entry l = file_at l.name (entries_of (drop l.entry-index l.files)) ≡ file_at l.name (entries_of l.files)
