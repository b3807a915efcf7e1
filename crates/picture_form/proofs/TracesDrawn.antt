-- Every trace that can be read can be drawn.
use Rattle.std.proofs.Common.{ℕ, ◌≡◌, ◌<◌, ◌≤◌, ◌+◌, Bool, true, false, cond, List, [], ◌∷◌, ◌++◌, Result, Ok, Err, length, arith, refl}
use Rattle.std.specs.Prelude.{codes, nat_lt, ⊤}
use Rattle.std.proofs.lemmas.List.{length-append}
use Rattle.std.proofs.lemmas.Option.{slice_get_within}
use Rattle.scram_types.specs.Specification.{Each, IsSpec, Parts}
use Rattle.scram_types.specs.declared.rows.Flown.{Flown}
use Rattle.scram_types.specs.declared.rows.Report.{Report}
use Rattle.scram_types.specs.declared.rows.Row.{Row}
use Rattle.scram_types.specs.declared.limits.TheConstants.{MAX_FRAMES, MAX_TRACE_BYTES}
use Rattle.scram_types.specs.declared.orders.Act.TheVariants as act
use Rattle.scram_types.proofs.Items.{each_end}
use Rattle.trace_text.specs.AppReading.{app_read, done}
use Rattle.trace_text.specs.Pieces.{is_filled, pieces_of}
use Rattle.trace_text.specs.ReportReading.{end_read, report_read}
use Rattle.trace_text.specs.RowReading.{row_read}
use Rattle.trace_text.specs.TraceReading.{ReadingState, after_app, after_line, at_end, before_first, begins, closing, fault_at, go_on, is_plain, expected_line, trace_from, with_app, with_done, with_end, with_report, with_row}
use Rattle.trace_text.specs.declared.app_reading.Done.{Done}
use Rattle.trace_text.specs.declared.progress.Expected.{Expected}
use Rattle.trace_text.specs.declared.progress.Expected.TheVariants.{Rows, Apps, Reports, Over}
use Rattle.trace_text.specs.declared.trace_reading.TraceFault.{TraceFault}
use Rattle.trace_text.specs.declared.rule.TheConstants.{BROKEN_LINE, OUT_OF_PLACE, WRONG_END}
use Rattle.trace_text.proofs.Inversion.{if_ok}
use Rattle.picture_form.proofs.LinesDrawn.{app_drawn, app_shown, line_read, report_drawn}
use Rattle.picture_form.specs.Laws.{IsReportDrawn, IsRowDrawn, TracesAreDrawn}

-- Lemmas that, after each line of a trace, the contents of the lines that were read so far can be drawn.

-- If a row was begun but not all of its applications were read, the row can be drawn, and fewer than `MAX_FRAMES`
-- rows precede it.
abbrev OpenDrawn : Parts → List Row → Expected → Type 0
OpenDrawn spec rows Rows = ⊤
OpenDrawn spec rows (Apps a row) = IsRowDrawn spec row × (length rows < MAX_FRAMES)
OpenDrawn spec rows Reports = ⊤
OpenDrawn spec rows Over = ⊤

-- The contents of the lines that were read so far can be drawn.
record Drawn (spec : Parts) (s : ReadingState) : Type 0 where
  rows : Each (IsRowDrawn spec) s.rows
  reports : Each IsReportDrawn s.reports
  few : length s.rows ≤ MAX_FRAMES
  begun : OpenDrawn spec s.rows s.expected

row_step : (spec : Parts) (s t : ReadingState) (line : List ℕ) → IsSpec spec → Drawn spec s → (read : Result Row ℕ) → row_read spec (length s.rows) line ≡ read → with_row s read ≡ Ok t → Drawn spec t
row_step spec s t line sound drawn (Err rule) is h = absurd (let e = h in cc)
row_step spec s t line sound drawn (Ok row) is h =
    let read = line_read spec (length s.rows) line row sound is in
    let same : record { rows = s.rows; reports = s.reports; expected = Apps 0 row } ≡ t = let e = h in cc in
    let made : Drawn spec (record { rows = s.rows; reports = s.reports; expected = Apps 0 row })
    = record { rows = drawn.rows; reports = drawn.reports; few = drawn.few; begun = (read.drawn, read.due) } in
    rw (← same) made

after_drawn : (more : Bool) (spec : Parts) (s : ReadingState) (a : ℕ) (row : Row) → Drawn spec s → IsRowDrawn spec row → length s.rows < MAX_FRAMES
    → Drawn spec (cond more (record { rows = s.rows; reports = s.reports; expected = Apps (a + 1) row }) (record { rows = s.rows ++ row ∷ []; reports = s.reports; expected = Rows }))
after_drawn true spec s a row drawn new below = record { rows = drawn.rows; reports = drawn.reports; few = drawn.few; begun = (new, below) }
after_drawn false spec s a row drawn new below =
    let one : length (s.rows ++ row ∷ []) ≡ length s.rows + 1 = length-append s.rows (row ∷ []) in
    record { rows = each_end (IsRowDrawn spec) s.rows row drawn.rows new; reports = drawn.reports; few = omega (arith, one, below); begun = tt }

app_step : (spec : Parts) (s t : ReadingState) (line : List ℕ) (a : ℕ) (row : Row) → Drawn spec s → IsRowDrawn spec row → length s.rows < MAX_FRAMES
    → (read : Result Done ℕ) → app_read spec a line ≡ read → with_done spec s a row read ≡ Ok t → Drawn spec t
app_step spec s t line a row drawn begun below (Err rule) is h = absurd (let e = h in cc)
app_step spec s t line a row drawn begun below (Ok told) is h =
    let same : after_app spec s a (with_app row a told.act told.area) ≡ t = let e = h in cc in
    rw (← same) (after_drawn (nat_lt (a + 1) (length spec.apps)) spec s a (with_app row a told.act told.area) drawn (app_drawn spec row a told begun (app_shown spec a line told is)) below)

report_step : (spec : Parts) (s t : ReadingState) (line : List ℕ) → Drawn spec s → (read : Result Report ℕ) → report_read spec (length s.rows) line ≡ read → with_report s read ≡ Ok t → Drawn spec t
report_step spec s t line drawn (Err rule) is h = absurd (let e = h in cc)
report_step spec s t line drawn (Ok report) is h =
    let same : record { rows = s.rows; reports = s.reports ++ report ∷ []; expected = Reports } ≡ t = let e = h in cc in
    let made : Drawn spec (record { rows = s.rows; reports = s.reports ++ report ∷ []; expected = Reports })
    = record { rows = drawn.rows; reports = each_end IsReportDrawn s.reports report drawn.reports (report_drawn spec (length s.rows) line report drawn.few is); few = drawn.few; begun = tt } in
    rw (← same) made

end_step : (spec : Parts) (s t : ReadingState) → Drawn spec s → (read : Result ⊤ ℕ) → with_end s read ≡ Ok t → Drawn spec t
end_step spec s t drawn (Err rule) h = absurd (let e = h in cc)
end_step spec s t drawn (Ok done) h =
    let same : record { rows = s.rows; reports = s.reports; expected = Over } ≡ t = let e = h in cc in
    let made : Drawn spec (record { rows = s.rows; reports = s.reports; expected = Over }) = record { rows = drawn.rows; reports = drawn.reports; few = drawn.few; begun = tt } in
    rw (← same) made

closing_by : (report end : Bool) (spec : Parts) (s t : ReadingState) (line : List ℕ) → Drawn spec s
    → cond report (with_report s (report_read spec (length s.rows) line)) (cond end (with_end s (end_read (length s.rows) (length s.reports) line)) (Err OUT_OF_PLACE)) ≡ Ok t → Drawn spec t
closing_by true end spec s t line drawn h = report_step spec s t line drawn (report_read spec (length s.rows) line) refl h
closing_by false true spec s t line drawn h = end_step spec s t drawn (end_read (length s.rows) (length s.reports) line) h
closing_by false false spec s t line drawn h = absurd (let e = h in cc)

closing_step : (spec : Parts) (s t : ReadingState) (line : List ℕ) → Drawn spec s → closing spec s line ≡ Ok t → Drawn spec t
closing_step spec s t line drawn h = closing_by (begins line (codes "reconfiguration")) (begins line (codes "end")) spec s t line drawn h

rows_by : (frame : Bool) (spec : Parts) (s t : ReadingState) (line : List ℕ) → IsSpec spec → Drawn spec s
    → cond frame (with_row s (row_read spec (length s.rows) line)) (closing spec s line) ≡ Ok t → Drawn spec t
rows_by true spec s t line sound drawn h = row_step spec s t line sound drawn (row_read spec (length s.rows) line) refl h
rows_by false spec s t line sound drawn h = closing_step spec s t line drawn h

apps_by : (app : Bool) (spec : Parts) (s t : ReadingState) (line : List ℕ) (a : ℕ) (row : Row) → Drawn spec s → IsRowDrawn spec row × (length s.rows < MAX_FRAMES)
    → cond app (with_done spec s a row (app_read spec a line)) (Err OUT_OF_PLACE) ≡ Ok t → Drawn spec t
apps_by true spec s t line a row drawn begun h = app_step spec s t line a row drawn begun.0 begun.1 (app_read spec a line) refl h
apps_by false spec s t line a row drawn begun h = absurd (let e = h in cc)

expected_step : (spec : Parts) (s t : ReadingState) (expected : Expected) (line : List ℕ) → IsSpec spec → Drawn spec s → OpenDrawn spec s.rows expected
    → expected_line spec s expected line ≡ Ok t → Drawn spec t
expected_step spec s t Rows line sound drawn begun h = rows_by (begins line (codes "frame")) spec s t line sound drawn h
expected_step spec s t (Apps a row) line sound drawn begun h = apps_by (begins line (codes "app")) spec s t line a row drawn begun h
expected_step spec s t Reports line sound drawn begun h = closing_step spec s t line drawn h
expected_step spec s t Over line sound drawn begun h = absurd (let e = h in cc)

line_step : (spec : Parts) (s t : ReadingState) (line : List ℕ) → IsSpec spec → Drawn spec s → after_line spec s line ≡ Ok t → Drawn spec t
line_step spec s t line sound drawn h =
    expected_step spec s t s.expected line sound drawn drawn.begun (if_ok (is_plain line) (expected_line spec s s.expected line) BROKEN_LINE t h).1

-- A flight whose trace was read to its end can be drawn.
record DrawnWhole (spec : Parts) (flown : Flown) : Type 0 where
  rows : Each (IsRowDrawn spec) flown.rows
  reports : Each IsReportDrawn flown.reports

ended : (spec : Parts) (k : ℕ) (s : ReadingState) (expected : Expected) (flown : Flown) → Drawn spec s → at_end k s expected ≡ Ok flown → DrawnWhole spec flown
ended spec k s Over flown drawn h =
    let same : record { rows = s.rows; reports = s.reports } ≡ flown = let e = h in cc in
    let made : DrawnWhole spec (record { rows = s.rows; reports = s.reports }) = record { rows = drawn.rows; reports = drawn.reports } in
    rw (← same) made
ended spec k s Rows flown drawn h = absurd (let e = h in cc)
ended spec k s (Apps a row) flown drawn h = absurd (let e = h in cc)
ended spec k s Reports flown drawn h = absurd (let e = h in cc)

last_by : (filled : Bool) (spec : Parts) (k : ℕ) (s : ReadingState) (flown : Flown) → Drawn spec s → cond filled (Err (fault_at k BROKEN_LINE)) (at_end k s s.expected) ≡ Ok flown → DrawnWhole spec flown
last_by true spec k s flown drawn h = absurd (let e = h in cc)
last_by false spec k s flown drawn h = ended spec k s s.expected flown drawn h

go_by : (spec : Parts) (k : ℕ) (s : ReadingState) (line next : List ℕ) (lines : List (List ℕ)) (flown : Flown) → IsSpec spec → Drawn spec s
    → ((t : ReadingState) → Drawn spec t → trace_from spec (k + 1) t (next ∷ lines) ≡ Ok flown → DrawnWhole spec flown)
    → (read : Result ReadingState ℕ) → after_line spec s line ≡ read → go_on k read (λ (t : ReadingState). trace_from spec (k + 1) t (next ∷ lines)) ≡ Ok flown → DrawnWhole spec flown
go_by spec k s line next lines flown sound drawn more (Err rule) is h = absurd (let e = h in cc)
go_by spec k s line next lines flown sound drawn more (Ok t) is h = more t (line_step spec s t line sound drawn is) h

lines_drawn : (spec : Parts) (k : ℕ) (s : ReadingState) (lines : List (List ℕ)) (flown : Flown) → IsSpec spec → Drawn spec s → trace_from spec k s lines ≡ Ok flown → DrawnWhole spec flown
lines_drawn spec k s [] flown sound drawn h = ended spec k s s.expected flown drawn h
lines_drawn spec k s (last ∷ []) flown sound drawn h = last_by (is_filled last) spec k s flown drawn h
lines_drawn spec k s (line ∷ next ∷ lines) flown sound drawn h =
    go_by spec k s line next lines flown sound drawn (λ t held read. lines_drawn spec (k + 1) t (next ∷ lines) flown sound held read) (after_line spec s line) refl h

none_drawn : (spec : Parts) → Drawn spec before_first
none_drawn spec = record {
  rows = λ i row there. let none = slice_get_within [] i row there in absurd (omega (arith, none));
  reports = λ i report there. let none = slice_get_within [] i report there in absurd (omega (arith, none));
  few = omega arith;
  begun = tt;
}

not_long : (long : Bool) (fault : TraceFault) (read : Result Flown TraceFault) (flown : Flown) → cond long (Err fault) read ≡ Ok flown → read ≡ Ok flown
not_long true fault read flown h = absurd (let e = h in cc)
not_long false fault read flown h = h

pub traces_drawn : TracesAreDrawn
traces_drawn spec flown bytes sound says =
    let read = not_long (nat_lt MAX_TRACE_BYTES (length bytes)) (fault_at 0 WRONG_END) (trace_from spec 1 before_first (pieces_of 10 bytes)) flown says.is in
    let drawn = lines_drawn spec 1 before_first (pieces_of 10 bytes) flown sound (none_drawn spec) read in
    record { few = says.rows; rows_drawn = drawn.rows; reports_drawn = drawn.reports }
