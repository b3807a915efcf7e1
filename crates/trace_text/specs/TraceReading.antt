-- Reading a trace. The result is the rows and reports of the trace, or the first line that breaks a rule, with the
-- first rule that it breaks.
use Rattle.std.specs.Prelude.{ℕ, ℤ, ◌≡◌, ◌+◌, ◌-◌, ◌&&◌, Bool, List, [], ◌∷◌, ◌++◌, length, codes, nat_le, nat_lt, slice_set, ⊤, Result, Ok, Err, bytes_eq, if◌then◌else◌}
use Rattle.std.specs.List.{list_all}
use Rattle.scram_types.specs.declared.limits.TheConstants.{MAX_FRAMES, MAX_LINE_BYTES, MAX_TRACE_BYTES}
use Rattle.scram_types.specs.Specification.{Parts}
use Rattle.scram_types.specs.declared.rows.Flown.{Flown}
use Rattle.scram_types.specs.declared.rows.Report.{Report}
use Rattle.scram_types.specs.declared.rows.Row.{Row}
use Rattle.scram_types.specs.declared.orders.Act.{Act}
use Rattle.trace_text.specs.declared.app_reading.Done.{Done}
use Rattle.trace_text.specs.declared.progress.Expected.{Expected}
use Rattle.trace_text.specs.declared.progress.Expected.TheVariants.{Rows, Apps, Reports, Over}
use Rattle.trace_text.specs.declared.progress.Stop.{Stop}
use Rattle.trace_text.specs.declared.progress.Stop.TheVariants as stop
use Rattle.trace_text.specs.declared.trace_reading.TraceFault.{TraceFault}
use Rattle.trace_text.specs.declared.trace_reading.TraceError.{TraceError}
use Rattle.trace_text.specs.declared.trace_reading.TraceError.TheVariants.{Fault, NoMemory}
use Rattle.trace_text.specs.AppReading.{app_read}
use Rattle.trace_text.specs.Pieces.{pieces_of, words_of, is_filled, word_at}
use Rattle.trace_text.specs.ReportReading.{report_read, end_read}
use Rattle.trace_text.specs.RowReading.{row_read}
use Rattle.trace_text.specs.declared.rule.TheConstants.{BROKEN_LINE, OUT_OF_PLACE, WRONG_END}

-- The state of reading a trace: the rows and reports of the lines that have been read, and the lines that may come
-- next.
pub record ReadingState : Type 0 where
  pub rows : List Row
  pub reports : List Report
  pub expected : Expected

-- The maximum number of rows that have been read when these lines are expected. Frames are below 20,000.
abbrev pub rows_before : Expected → ℕ
rows_before Rows = MAX_FRAMES
rows_before (Apps a row) = MAX_FRAMES - 1
rows_before Reports = MAX_FRAMES
rows_before Over = MAX_FRAMES

-- The state before the first line, in which a row may begin.
abbrev pub before_first : ReadingState
before_first = record { rows = []; reports = []; expected = Rows }

-- Whether the byte is printable in ASCII. The space counts as printable.
abbrev pub is_printable : ℕ → Bool
is_printable b = nat_le 32 b && nat_le b 126

-- Whether a line, given without its line feed, satisfies rule 1: the line is short enough, and each of its bytes is
-- printable.
abbrev pub is_plain : List ℕ → Bool
is_plain line = nat_le (length line) MAX_LINE_BYTES && list_all is_printable line

-- Whether the first word of the line is `text`.
abbrev pub begins : List ℕ → List ℕ → Bool
begins line text = bytes_eq (word_at (words_of line) 0) text

-- The row `row` with this act and this area for application `a`.
abbrev pub with_app : Row → ℕ → Act → List ℤ → Row
with_app row a act area =
    record { frame = row.frame; env = row.env; mode = row.mode; acts = slice_set row.acts a act; areas = slice_set row.areas a area; world = row.world }

-- The state after the line of application `a` of a row. The row is complete after its last application.
abbrev pub after_app : Parts → ReadingState → ℕ → Row → ReadingState
after_app spec s a row =
    if nat_lt (a + 1) (length spec.apps) then record { rows = s.rows; reports = s.reports; expected = Apps (a + 1) row }
    else record { rows = s.rows ++ row ∷ []; reports = s.reports; expected = Rows }

-- The state after the first line of a row, given the result of reading the line. The lines of the row's applications
-- are expected next.
abbrev pub with_row : ReadingState → Result Row ℕ → Result ReadingState ℕ
with_row s (Ok row) = Ok (record { rows = s.rows; reports = s.reports; expected = Apps 0 row })
with_row s (Err rule) = Err rule

-- The state after the line of application `a`, given the result of reading the line. The act and the area in the line
-- are added to the row.
abbrev pub with_done : Parts → ReadingState → ℕ → Row → Result Done ℕ → Result ReadingState ℕ
with_done spec s a row (Ok done) = Ok (after_app spec s a (with_app row a done.act done.area))
with_done spec s a row (Err rule) = Err rule

-- The state after the line of a reconfiguration, given the result of reading the line. No row may come after it.
abbrev pub with_report : ReadingState → Result Report ℕ → Result ReadingState ℕ
with_report s (Ok report) = Ok (record { rows = s.rows; reports = s.reports ++ report ∷ []; expected = Reports })
with_report s (Err rule) = Err rule

-- The state after the end line, given the result of reading the line. No line may come after it.
abbrev pub with_end : ReadingState → Result ⊤ ℕ → Result ReadingState ℕ
with_end s (Ok done) = Ok (record { rows = s.rows; reports = s.reports; expected = Over })
with_end s (Err rule) = Err rule

-- The state after a line that has to be a reconfiguration or the end line, or the first rule that the line breaks.
abbrev pub closing : Parts → ReadingState → List ℕ → Result ReadingState ℕ
closing spec s line =
    if begins line (codes "reconfiguration") then with_report s (report_read spec (length s.rows) line)
    else (if begins line (codes "end") then with_end s (end_read (length s.rows) (length s.reports) line) else Err OUT_OF_PLACE)

-- The state after a further printable line, given the lines that may come here, or the first rule that the line
-- breaks.
abbrev pub expected_line : Parts → ReadingState → Expected → List ℕ → Result ReadingState ℕ
expected_line spec s Rows line =
    if begins line (codes "frame") then with_row s (row_read spec (length s.rows) line) else closing spec s line
expected_line spec s (Apps a row) line =
    if begins line (codes "app") then with_done spec s a row (app_read spec a line) else Err OUT_OF_PLACE
expected_line spec s Reports line = closing spec s line
expected_line spec s Over line = Err WRONG_END

-- The state after a line that is read in state `s`, or the first rule that the line breaks.
abbrev pub after_line : Parts → ReadingState → List ℕ → Result ReadingState ℕ
after_line spec s line = if is_plain line then expected_line spec s s.expected line else Err BROKEN_LINE

-- The fault of a line that breaks a rule. Lines are counted from 1.
abbrev pub fault_at : ℕ → ℕ → TraceFault
fault_at line rule = record { line = line; rule = rule }

-- The result at the end of the bytes, given the number `k` of the line that would follow. Rule 9 requires that the
-- end line has been read.
abbrev pub at_end : ℕ → ReadingState → Expected → Result Flown TraceFault
at_end k s Over = Ok (record { rows = s.rows; reports = s.reports })
at_end k s Rows = Err (fault_at k WRONG_END)
at_end k s (Apps a row) = Err (fault_at k WRONG_END)
at_end k s Reports = Err (fault_at k WRONG_END)

-- The result after the last line feed, given the bytes `last` after it. Rule 1 requires that there are none.
abbrev pub at_last : ℕ → ReadingState → List ℕ → Result Flown TraceFault
at_last k s last = if is_filled last then Err (fault_at k BROKEN_LINE) else at_end k s s.expected

-- The result of `next` for the state after line `k`, or the fault of the line if it breaks a rule.
abbrev pub go_on : ℕ → Result ReadingState ℕ → (ReadingState → Result Flown TraceFault) → Result Flown TraceFault
go_on k (Ok s) next = next s
go_on k (Err rule) next = Err (fault_at k rule)

-- The result of reading from line `k` on, given the state before the line and the remaining lines. The last item of
-- the list has the bytes after the last line feed.
abbrev pub trace_from : Parts → ℕ → ReadingState → List (List ℕ) → Result Flown TraceFault
trace_from spec k s [] = at_end k s s.expected
trace_from spec k s (last ∷ []) = at_last k s last
trace_from spec k s (line ∷ next ∷ lines) =
    go_on k (after_line spec s line) (λ (t : ReadingState). trace_from spec (k + 1) t (next ∷ lines))

-- The result of reading bytes as a trace. If there are too many bytes, the fault is rule 9 at line 0.
abbrev pub trace_of : Parts → List ℕ → Result Flown TraceFault
trace_of spec bytes =
    if nat_lt MAX_TRACE_BYTES (length bytes) then Err (fault_at 0 WRONG_END) else trace_from spec 1 before_first (pieces_of 10 bytes)

-- The error of reading a trace, given the line that was not accepted and the cause.
abbrev pub stopped : ℕ → Stop → TraceError
stopped line (stop.Rule rule) = Fault (fault_at line rule)
stopped line stop.NoMemory = NoMemory

-- The reader's result for a line equals the specified result `reading`, unless the reader is out of memory.
abbrev pub AnswersLine : Result ReadingState ℕ → Result ReadingState Stop → Type 0
AnswersLine reading (Ok s) = reading ≡ Ok s
AnswersLine reading (Err (stop.Rule rule)) = reading ≡ Err rule
AnswersLine reading (Err stop.NoMemory) = ⊤

-- The reader's result for a whole trace equals the specified result `reading`, unless the reader is out of memory.
abbrev pub AnswersTrace : Result Flown TraceFault → Result Flown TraceError → Type 0
AnswersTrace reading (Ok flown) = reading ≡ Ok flown
AnswersTrace reading (Err (Fault fault)) = reading ≡ Err fault
AnswersTrace reading (Err NoMemory) = ⊤
