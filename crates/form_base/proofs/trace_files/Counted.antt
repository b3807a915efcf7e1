-- A line of a trace adds at most one row and at most one report. Therefore, the number of rows and the number of
-- reports fit in 32 bits.
use Rattle.std.proofs.Common.{◌≡◌, ℕ, suc, ◌+◌, ◌<◌, ◌≤◌, ◌∷◌, [], ◌++◌, List, length, Bool, true, false, Result, Ok, Err, arith, refl, sym, length-append}
use Rattle.std.specs.Prelude.{◌==◌, ◌^◌, codes, nat_lt, ⊤, if◌then◌else◌}
use Rattle.std.proofs.lemmas.Bool.{ltb-false}
use Rattle.std.proofs.lemmas.List.Splits.{length-slice_split}
use Rattle.std.proofs.lemmas.List.Sums.{count_by-le-length}
use Rattle.scram_types.specs.declared.limits.TheConstants.{MAX_TRACE_BYTES}
use Rattle.scram_types.specs.Specification.{Parts}
use Rattle.scram_types.specs.declared.rows.Flown.{Flown}
use Rattle.scram_types.specs.declared.rows.Report.{Report}
use Rattle.scram_types.specs.declared.rows.Row.{Row}
use Rattle.trace_text.specs.declared.app_reading.Done.{Done}
use Rattle.trace_text.specs.declared.rule.TheConstants.{WRONG_END}
use Rattle.trace_text.specs.declared.progress.Expected.{Expected}
use Rattle.trace_text.specs.declared.progress.Expected.TheVariants.{Rows, Apps, Reports, Over}
use Rattle.trace_text.specs.declared.trace_reading.TraceFault.{TraceFault}
use Rattle.trace_text.specs.AppReading.{app_read}
use Rattle.trace_text.specs.Pieces.{pieces_of}
use Rattle.trace_text.specs.ReportReading.{end_read, report_read}
use Rattle.trace_text.specs.RowReading.{row_read}
use Rattle.trace_text.specs.TraceReading.{ReadingState, after_app, after_line, at_end, before_first, begins, closing, fault_at, go_on, is_plain, expected_line, trace_from, trace_of, with_app, with_done, with_end, with_report, with_row}
use Rattle.trace_text.specs.Pieces.{is_filled}

-- State `t` has at most one row and at most one report more than state `s`.
abbrev AddsOne : ReadingState → ReadingState → Type 0
AddsOne s t = (length t.rows ≤ length s.rows + 1) × (length t.reports ≤ length s.reports + 1)

abbrev Adds : ReadingState → Result ReadingState ℕ → Type 0
Adds s (Ok t) = AddsOne s t
Adds s (Err rule) = ⊤

either : (s : ReadingState) (b : Bool) (r q : Result ReadingState ℕ) → Adds s r → Adds s q → Adds s (if b then r else q)
either s true r q first second = first
either s false r q first second = second

adds_row : (s : ReadingState) (r : Result Row ℕ) → Adds s (with_row s r)
adds_row s (Ok row) = (omega arith, omega arith)
adds_row s (Err rule) = tt

adds_report : (s : ReadingState) (r : Result Report ℕ) → Adds s (with_report s r)
adds_report s (Ok report) = (omega arith, omega (arith, length-append s.reports (report ∷ [])))
adds_report s (Err rule) = tt

adds_end : (s : ReadingState) (r : Result ⊤ ℕ) → Adds s (with_end s r)
adds_end s (Ok done) = (omega arith, omega arith)
adds_end s (Err rule) = tt

one_of : (s t u : ReadingState) (b : Bool) → AddsOne s t → AddsOne s u → AddsOne s (if b then t else u)
one_of s t u true first second = first
one_of s t u false first second = second

adds_app : (spec : Parts) (s : ReadingState) (a : ℕ) (row : Row) → AddsOne s (after_app spec s a row)
adds_app spec s a row =
    one_of s (record { rows = s.rows; reports = s.reports; expected = Apps (a + 1) row })
    (record { rows = s.rows ++ row ∷ []; reports = s.reports; expected = Rows }) (nat_lt (a + 1) (length spec.apps))
    (omega arith, omega arith) (omega (arith, length-append s.rows (row ∷ [])), omega arith)

adds_done : (spec : Parts) (s : ReadingState) (a : ℕ) (row : Row) (r : Result Done ℕ) → Adds s (with_done spec s a row r)
adds_done spec s a row (Ok done) = adds_app spec s a (with_app row a done.act done.area)
adds_done spec s a row (Err rule) = tt

adds_closing : (spec : Parts) (s : ReadingState) (line : List ℕ) → Adds s (closing spec s line)
adds_closing spec s line =
    either s (begins line (codes "reconfiguration")) (with_report s (report_read spec (length s.rows) line))
    (if begins line (codes "end") then with_end s (end_read (length s.rows) (length s.reports) line) else Err 2)
    (adds_report s (report_read spec (length s.rows) line))
    (either s (begins line (codes "end")) (with_end s (end_read (length s.rows) (length s.reports) line)) (Err 2)
    (adds_end s (end_read (length s.rows) (length s.reports) line)) tt)

adds_expected : (spec : Parts) (s : ReadingState) (expected : Expected) (line : List ℕ) → Adds s (expected_line spec s expected line)
adds_expected spec s Rows line =
    either s (begins line (codes "frame")) (with_row s (row_read spec (length s.rows) line)) (closing spec s line)
    (adds_row s (row_read spec (length s.rows) line)) (adds_closing spec s line)
adds_expected spec s (Apps a row) line =
    either s (begins line (codes "app")) (with_done spec s a row (app_read spec a line)) (Err 2)
    (adds_done spec s a row (app_read spec a line)) tt
adds_expected spec s Reports line = adds_closing spec s line
adds_expected spec s Over line = tt

adds_line : (spec : Parts) (s : ReadingState) (line : List ℕ) → Adds s (after_line spec s line)
adds_line spec s line = either s (is_plain line) (expected_line spec s s.expected line) (Err 1) (adds_expected spec s s.expected line) tt

-- If a flight was read, it has at most `rows` rows and at most `reports` reports.
abbrev UpTo : ℕ → ℕ → Result Flown TraceFault → Type 0
UpTo rows reports (Ok flown) = (length flown.rows ≤ rows) × (length flown.reports ≤ reports)
UpTo rows reports (Err fault) = ⊤

up_to_end : (k more : ℕ) (s : ReadingState) (expected : Expected) → UpTo (length s.rows + more) (length s.reports + more) (at_end k s expected)
up_to_end k more s Over = (omega arith, omega arith)
up_to_end k more s Rows = tt
up_to_end k more s (Apps a row) = tt
up_to_end k more s Reports = tt

up_to_last_by : (k more : ℕ) (s : ReadingState) (b : Bool) →
    UpTo (length s.rows + more) (length s.reports + more) (if b then Err (fault_at k 1) else at_end k s s.expected)
up_to_last_by k more s true = tt
up_to_last_by k more s false = up_to_end k more s s.expected

wider : (rows reports more_rows more_reports : ℕ) (r : Result Flown TraceFault) → rows ≤ more_rows → reports ≤ more_reports →
    UpTo rows reports r → UpTo more_rows more_reports r
wider rows reports more_rows more_reports (Ok flown) h g known = (omega (arith, known.0, h), omega (arith, known.1, g))
wider rows reports more_rows more_reports (Err fault) h g known = tt

up_to_on : (k more : ℕ) (s : ReadingState) (r : Result ReadingState ℕ) (next : ReadingState → Result Flown TraceFault) → Adds s r →
    ((t : ReadingState) → UpTo (length t.rows + more) (length t.reports + more) (next t)) →
    UpTo (length s.rows + suc more) (length s.reports + suc more) (go_on k r next)
up_to_on k more s (Ok t) next adds rest =
    wider (length t.rows + more) (length t.reports + more) (length s.rows + suc more) (length s.reports + suc more) (next t)
    (omega (arith, adds.0)) (omega (arith, adds.1)) (rest t)
up_to_on k more s (Err rule) next adds rest = tt

up_to_lines : (spec : Parts) (k : ℕ) (s : ReadingState) (lines : List (List ℕ)) →
    UpTo (length s.rows + length lines) (length s.reports + length lines) (trace_from spec k s lines)
up_to_lines spec k s [] = up_to_end k 0 s s.expected
up_to_lines spec k s (last ∷ []) = up_to_last_by k 1 s (is_filled last)
up_to_lines spec k s (line ∷ next ∷ lines) =
    up_to_on k (length (next ∷ lines)) s (after_line spec s line) (λ (t : ReadingState). trace_from spec (k + 1) t (next ∷ lines)) (adds_line spec s line)
    (λ t. up_to_lines spec (k + 1) t (next ∷ lines))

few_pieces : (bytes : List ℕ) → length (pieces_of 10 bytes) ≤ length bytes + 1
few_pieces bytes =
    let test : ℕ → Bool = λ (b : ℕ). b == 10 in
    omega (arith, length-slice_split test bytes, count_by-le-length test bytes)

up_to_bytes : (spec : Parts) (bytes : List ℕ) (b : Bool) → b ≡ nat_lt MAX_TRACE_BYTES (length bytes) →
    UpTo 33554433 33554433 (if b then Err (fault_at 0 WRONG_END) else trace_from spec 1 before_first (pieces_of 10 bytes))
up_to_bytes spec bytes true long = tt
up_to_bytes spec bytes false short =
    let few : length (pieces_of 10 bytes) ≤ 33554433 = omega (arith, few_pieces bytes, ltb-false MAX_TRACE_BYTES (length bytes) (sym short)) in
    wider (0 + length (pieces_of 10 bytes)) (0 + length (pieces_of 10 bytes)) 33554433 33554433 (trace_from spec 1 before_first (pieces_of 10 bytes))
    (omega (arith, few)) (omega (arith, few)) (up_to_lines spec 1 before_first (pieces_of 10 bytes))

-- A trace that can be read has fewer than `2 ^ 32` rows and fewer than `2 ^ 32` reports.
pub counted : (spec : Parts) (bytes : List ℕ) (flown : Flown) → trace_of spec bytes ≡ Ok flown → (length flown.rows < 2 ^ 32) × (length flown.reports < 2 ^ 32)
counted spec bytes flown reads =
    let known : UpTo 33554433 33554433 (Ok flown) = rw reads at (up_to_bytes spec bytes (nat_lt MAX_TRACE_BYTES (length bytes)) refl) in
    (omega (arith, known.0), omega (arith, known.1))
