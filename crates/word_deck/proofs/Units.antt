-- The number of a processor of a table is below eight.
use Rattle.std.proofs.Common.{◌<◌, arith}
use Rattle.word_table.specs.declared.seats.Seat.{Seat}
use Rattle.word_table.specs.declared.tables.WordTable.{WordTable}
use Rattle.word_table.specs.Tables.{IsSeatOf, proc_of}

pub few : (words : WordTable) (seat : Seat) → IsSeatOf words seat → proc_of seat < 8
few words seat is = let known = is.proc in let most = is.holds.facts.procs_count.few in omega (arith, known, most)
