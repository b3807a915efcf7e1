-- Lemmas on the rows that the kernel hands to a watch: the next row, and the number of rows after a turn.
use Rattle.std.proofs.Common.{◌≡◌, ◌∙◌, ℕ, ◌+◌, ◌<◌, ◌≤◌, ap, sym, arith, List, length}
use Rattle.std.specs.Prelude.{slice_index_or, slice_get, Some}
use Rattle.std.proofs.lemmas.Bool.Decides.{nat_tests}
use Rattle.std.proofs.lemmas.Option.{get_or_from_slice_get}
use Rattle.scram_types.specs.declared.rows.Row.{Row}
use Rattle.scram_types.proofs.Searches.{get_listed, length_listed}
use Rattle.coverage_check.specs.Missions.{MissionParts}
use Rattle.frame_model.specs.Flights.{row_at, rows_of}
use Rattle.scram_kernel.specs.Kernels.{rows_below}
use Rattle.word_table.specs.declared.seats.KSeat.{KSeat}
use Rattle.word_deck.specs.Kernels.{IsKernelBetween, IsKernelMoved, frames_noted}
use Rattle.word_deck.specs.declared.turns.Turn.{Turn}
use Rattle.word_deck.specs.declared.turns.Turn.TheVariants.{Worked, NotYet, Finished}

-- The row at index `before` of the kernel's rows is the mission's row of that index.
pub next_row : (mission : MissionParts) (rows : List Row) (before : ℕ) (d : Row) → rows ≡ rows_below mission.spec mission.script (length rows) → length rows ≤ mission.script.frames
    → before < length rows → slice_get (rows_of mission.spec mission.script) before ≡ Some (slice_index_or rows before d)
next_row mission rows before d are most low =
    let here : slice_get rows before ≡ Some (row_at mission.spec mission.script before) =
    ap (λ list. slice_get list before) are ∙ get_listed (row_at mission.spec mission.script) (length rows) before low in
    get_listed (row_at mission.spec mission.script) mission.script.frames before (omega (arith, low, most))
    ∙ ap Some (sym (get_or_from_slice_get rows before (row_at mission.spec mission.script before) d here))

-- A turn adds at most one row. The number of rows is at most the number of frames of the flight.

pub moved_on : (turn : Turn) (procs frames : ℕ) (before after : KSeat) → IsKernelMoved turn procs frames before after → frames_noted procs before ≤ frames_noted procs after
moved_on NotYet procs frames before after moved = grind (arith, nat_tests)
moved_on Worked procs frames before after moved = grind (arith, nat_tests)
moved_on Finished procs frames before after moved = grind (arith, nat_tests)

pub moved_by_one : (turn : Turn) (procs frames : ℕ) (before after : KSeat) → IsKernelMoved turn procs frames before after → frames_noted procs after ≤ frames_noted procs before + 1
moved_by_one NotYet procs frames before after moved = grind (arith, nat_tests)
moved_by_one Worked procs frames before after moved = grind (arith, nat_tests)
moved_by_one Finished procs frames before after moved = grind (arith, nat_tests)

pub within_flight : (procs frames : ℕ) (kseat : KSeat) → IsKernelBetween procs frames kseat → frames_noted procs kseat ≤ frames
within_flight procs frames kseat between =
    let within = between.within in
    let most = between.steps in
    let last = between.last in
    grind (arith, nat_tests, within, most, last)

-- The list of the rows of `n` frames has length `n`.
pub rows_count : (mission : MissionParts) (rows : List Row) (n : ℕ) → rows ≡ rows_below mission.spec mission.script n → length rows ≡ n
rows_count mission rows n are = ap length are ∙ length_listed (row_at mission.spec mission.script) n

pub rows_again : (mission : MissionParts) (rows : List Row) (n : ℕ) → rows ≡ rows_below mission.spec mission.script n → rows ≡ rows_below mission.spec mission.script (length rows)
rows_again mission rows n are = are ∙ ap (rows_below mission.spec mission.script) (sym (rows_count mission rows n are))

pub rows_rise : (mission old new : MissionParts) (turn : Turn) (before after : KSeat) (rows more : List Row) → mission ≡ old → mission ≡ new
    → rows ≡ rows_below old.spec old.script (frames_noted (length old.spec.procs) before) → more ≡ rows_below new.spec new.script (frames_noted (length new.spec.procs) after)
    → IsKernelMoved turn (length mission.spec.procs) mission.script.frames before after → (length rows ≤ length more) × (length more ≤ length rows + 1)
rows_rise mission old new turn before after rows more was is are_rows are_more moved =
    let procs = length mission.spec.procs in
    let count : length rows ≡ frames_noted procs before = rows_count old rows (frames_noted (length old.spec.procs) before) are_rows ∙ ap (λ (m : MissionParts). frames_noted (length m.spec.procs) before) (sym was) in
    let count2 : length more ≡ frames_noted procs after = rows_count new more (frames_noted (length new.spec.procs) after) are_more ∙ ap (λ (m : MissionParts). frames_noted (length m.spec.procs) after) (sym is) in
    let low = moved_on turn procs mission.script.frames before after moved in
    let high = moved_by_one turn procs mission.script.frames before after moved in
    (omega (arith, count, count2, low), omega (arith, count, count2, high))
