-- Bytes that are read as a trace are the printed text of its rows and reports.
use Rattle.std.proofs.Common.{ℕ, ℤ, suc, zero, ◌≡◌, ◌<◌, ◌≤◌, ◌+◌, ◌∙◌, Bool, true, false, cond, List, [], ◌∷◌, ◌++◌, Some, Result, Ok, Err, length, take, min, arith, refl, sym, ap, append_assoc, append-nil, length-set}
use Rattle.std.specs.Prelude.{codes, nat_lt, slice_get, slice_index_or, slice_set, IfOk, ⊤}
use Rattle.std.specs.List.{join_with_byte}
use Rattle.std.proofs.lemmas.Bool.{ltb-false, lt-ltb}
use Rattle.std.proofs.lemmas.List.{get_or-set_same, get_or-set_other, length-take, take_all}
use Rattle.std.proofs.lemmas.List.Splits.{join_with_byte-slice_split}
use Rattle.scram_types.specs.declared.limits.TheConstants.{MAX_TRACE_BYTES}
use Rattle.scram_types.specs.Specification.{Parts}
use Rattle.scram_types.specs.declared.rows.Flown.{Flown}
use Rattle.scram_types.specs.declared.rows.Report.{Report}
use Rattle.scram_types.specs.declared.rows.Row.{Row}
use Rattle.scram_types.specs.declared.orders.Act.{Act}
use Rattle.scram_types.specs.declared.orders.Act.TheVariants.{Off}
use Rattle.scram_types.specs.declared.specification.AppSpec.{AppSpec}
use Rattle.trace_text.specs.declared.app_reading.Done.{Done}
use Rattle.trace_text.specs.declared.progress.Expected.{Expected}
use Rattle.trace_text.specs.declared.progress.Expected.TheVariants.{Rows, Apps, Reports, Over}
use Rattle.trace_text.specs.declared.trace_reading.TraceError.{TraceError}
use Rattle.trace_text.specs.declared.trace_reading.TraceFault.{TraceFault}
use Rattle.trace_text.specs.AppReading.{app_read}
use Rattle.trace_text.specs.Pieces.{pieces_of}
use Rattle.trace_text.specs.ReportReading.{end_read, report_read}
use Rattle.trace_text.specs.RowReading.{row_read}
use Rattle.trace_text.specs.Text.{app_line, app_line_in, app_lines, end_line, report_line, reports_text, row_line, row_text, rows_text, text_of}
use Rattle.trace_text.specs.TraceReading.{AnswersTrace, ReadingState, after_app, after_line, at_end, at_last, before_first, begins, closing, fault_at, go_on, is_plain, expected_line, trace_from, trace_of, with_app, with_done, with_end, with_report, with_row}
use Rattle.trace_text.specs.declared.rule.TheConstants.{BROKEN_LINE, OUT_OF_PLACE, WRONG_END}
use Rattle.trace_text.proofs.AppOnly.{app_only}
use Rattle.trace_text.proofs.Inversion.{if_ok}
use Rattle.trace_text.proofs.ReportOnly.{end_only, report_only}
use Rattle.trace_text.proofs.RowOnly.{row_only}
use Rattle.trace_text.proofs.Splitting.{some_piece}

-- The text of the lines that have been read so far.
abbrev so_far : Parts → ReadingState → Expected → List ℕ
so_far spec s Rows = rows_text spec s.rows
so_far spec s (Apps a row) = rows_text spec s.rows ++ (row_line spec row ++ app_lines spec row (take a spec.apps) 0)
so_far spec s Reports = rows_text spec s.rows ++ reports_text spec s.reports
so_far spec s Over = text_of spec s.rows s.reports

-- No report has been read while a row is being read, and the row has eight acts and eight areas.
record RowOpen (s : ReadingState) (row : Row) : Type 0 where
  none : s.reports ≡ []
  acts : length row.acts ≡ 8
  areas : length row.areas ≡ 8

abbrev Sound : ReadingState → Expected → Type 0
Sound s Rows = s.reports ≡ []
Sound s (Apps a row) = RowOpen s row
Sound s Reports = ⊤
Sound s Over = ⊤

-- The state after a line is sound, and the text that has been read so far has grown by the line and its line feed.
record Taken (spec : Parts) (s t : ReadingState) (line : List ℕ) : Type 0 where
  sound : Sound t t.expected
  text : so_far spec t t.expected ≡ so_far spec s s.expected ++ (line ++ codes "\n")

rows_end : (spec : Parts) (rows : List Row) (row : Row) → rows_text spec (rows ++ row ∷ []) ≡ rows_text spec rows ++ row_text spec row
rows_end spec [] row = append-nil (row_text spec row)
rows_end spec (first ∷ rows) row = ap (λ (rest : List ℕ). row_text spec first ++ rest) (rows_end spec rows row) ∙ sym (append_assoc (row_text spec first) (rows_text spec rows) (row_text spec row))

reports_end : (spec : Parts) (reports : List Report) (report : Report) → reports_text spec (reports ++ report ∷ []) ≡ reports_text spec reports ++ report_line spec report
reports_end spec [] report = append-nil (report_line spec report)
reports_end spec (first ∷ reports) report = ap (λ (rest : List ℕ). report_line spec first ++ rest) (reports_end spec reports report) ∙ sym (append_assoc (report_line spec first) (reports_text spec reports) (report_line spec report))

-- The lines of the applications before application `a` do not depend on the act and the area of `a`.
lines_stay : (spec : Parts) (row : Row) (a : ℕ) (act : Act) (area : List ℤ) (apps : List AppSpec) (i : ℕ) → i + length apps ≤ a →
    app_lines spec (with_app row a act area) apps i ≡ app_lines spec row apps i
lines_stay spec row a act area [] i below = refl
lines_stay spec row a act area (app ∷ apps) i below =
    let one : slice_index_or (slice_set row.acts a act) i Off ≡ slice_index_or row.acts i Off = get_or-set_other row.acts a i act Off (λ same. omega (arith, below, same)) in
    let two : slice_index_or (slice_set row.areas a area) i [] ≡ slice_index_or row.areas i [] = get_or-set_other row.areas a i area [] (λ same. omega (arith, below, same)) in
    let rest : app_lines spec (with_app row a act area) apps (i + 1) ≡ app_lines spec row apps (i + 1) = lines_stay spec row a act area apps (i + 1) (omega (arith, below)) in
    rw (one, two, rest) refl

length_take : (A : Type 0) (a : ℕ) (xs : List A) → length (take a xs) ≤ a
length_take A a xs = let e : length (take a xs) ≡ min a (length xs) = length-take a xs in omega (arith, e)

lines_more : (spec : Parts) (row : Row) (apps : List AppSpec) (app : AppSpec) (a i : ℕ) → slice_get apps a ≡ Some app →
    app_lines spec row (take (suc a) apps) i ≡ app_lines spec row (take a apps) i ++ app_line_in spec row app (i + a)
lines_more spec row [] app a i there = absurd (let e = there in cc)
lines_more spec row (x ∷ apps) app zero i there =
    let same : x ≡ app = cc in
    let at : i + 0 ≡ i = omega arith in
    rw (at, ← same) (append-nil (app_line_in spec row x i))
lines_more spec row (x ∷ apps) app (suc a) i there =
    let at : (i + 1) + a ≡ i + suc a = omega arith in
    ap (λ (rest : List ℕ). app_line_in spec row x i ++ rest) (lines_more spec row apps app a (i + 1) there ∙ ap (λ (n : ℕ). app_lines spec row (take a apps) (i + 1) ++ app_line_in spec row app n) at)
    ∙ sym (append_assoc (app_line_in spec row x i) (app_lines spec row (take a apps) (i + 1)) (app_line_in spec row app (i + suc a)))

below_length : (A : Type 0) (xs : List A) (a : ℕ) (x : A) → slice_get xs a ≡ Some x → a < length xs
below_length A [] a x h = absurd (let e = h in cc)
below_length A (y ∷ xs) zero x h = omega arith
below_length A (y ∷ xs) (suc a) x h = let n : a < length xs = below_length A xs a x h in omega (arith, n)

-- Once the act and the area of application `a` are set, its line follows the lines of the applications before it.
lines_told : (spec : Parts) (row : Row) (a : ℕ) (app : AppSpec) (act : Act) (area : List ℤ) → slice_get spec.apps a ≡ Some app → length spec.apps ≤ 8 →
    length row.acts ≡ 8 → length row.areas ≡ 8 →
    app_lines spec (with_app row a act area) (take (a + 1) spec.apps) 0 ≡ app_lines spec row (take a spec.apps) 0 ++ app_line spec app act area
lines_told spec row a app act area there few acts areas =
    let below : a < length spec.apps = below_length AppSpec spec.apps a app there in
    let next : a + 1 ≡ suc a = omega arith in
    let one : slice_index_or (slice_set row.acts a act) a Off ≡ act = get_or-set_same row.acts a act Off (omega (arith, below, few, acts)) in
    let two : slice_index_or (slice_set row.areas a area) a [] ≡ area = get_or-set_same row.areas a area [] (omega (arith, below, few, areas)) in
    let line : app_line_in spec (with_app row a act area) app (0 + a) ≡ app_line spec app act area
    = ap (λ (n : ℕ). app_line_in spec (with_app row a act area) app n) (let z : 0 + a ≡ a = omega arith in z) ∙ rw (one, two) refl in
    ap (λ (n : ℕ). app_lines spec (with_app row a act area) (take n spec.apps) 0) next
    ∙ lines_more spec (with_app row a act area) spec.apps app a 0 there
    ∙ ap (λ (text : List ℕ). text ++ app_line_in spec (with_app row a act area) app (0 + a)) (lines_stay spec row a act area (take a spec.apps) 0 (omega (arith, length_take AppSpec a spec.apps)))
    ∙ ap (λ (text : List ℕ). app_lines spec row (take a spec.apps) 0 ++ text) line

after_by : (t : Bool) (spec : Parts) (s : ReadingState) (a : ℕ) (row : Row) (line : List ℕ) → (t ≡ false → length spec.apps ≤ a + 1) → length row.acts ≡ 8 → length row.areas ≡ 8 → s.reports ≡ [] →
    so_far spec s (Apps (a + 1) row) ≡ so_far spec s s.expected ++ (line ++ codes "\n") →
    Taken spec s (cond t (record { rows = s.rows; reports = s.reports; expected = Apps (a + 1) row }) (record { rows = s.rows ++ row ∷ []; reports = s.reports; expected = Rows })) line
after_by true spec s a row line last acts areas none text = record { sound = record { none = none; acts = acts; areas = areas }; text = text }
after_by false spec s a row line last acts areas none text =
    let all : take (a + 1) spec.apps ≡ spec.apps = take_all (a + 1) spec.apps (last refl) in
    record {
      sound = none;
      text = rows_end spec s.rows row ∙ ap (λ (apps : List AppSpec). rows_text spec s.rows ++ (row_line spec row ++ app_lines spec row apps 0)) (sym all) ∙ text;
    }

row_step : (spec : Parts) (s t : ReadingState) (line : List ℕ) → length spec.factors ≤ 6 → s.expected ≡ Rows → s.reports ≡ [] → begins line (codes "frame") ≡ true →
    (read : Result Row ℕ) → row_read spec (length s.rows) line ≡ read → with_row s read ≡ Ok t → Taken spec s t line
row_step spec s t line few stands none first (Err rule) is h = absurd (let e = h in cc)
row_step spec s t line few stands none first (Ok row) is h =
    let told = row_only spec (length s.rows) line row few first is in
    let same : record { rows = s.rows; reports = s.reports; expected = Apps 0 row } ≡ t = cc in
    let text : rows_text spec s.rows ++ (row_line spec row ++ []) ≡ so_far spec s s.expected ++ (line ++ codes "\n")
    = ap (λ (text : List ℕ). rows_text spec s.rows ++ text) (append-nil (row_line spec row) ∙ told.text) ∙ ap (λ (expected : Expected). so_far spec s expected ++ (line ++ codes "\n")) (sym stands) in
    let made : Taken spec s (record { rows = s.rows; reports = s.reports; expected = Apps 0 row }) line
    = record { sound = record { none = none; acts = ap length told.acts; areas = ap length told.areas }; text = text } in
    rw (← same) made

app_step : (spec : Parts) (s t : ReadingState) (line : List ℕ) (a : ℕ) (row : Row) → length spec.apps ≤ 8 → s.expected ≡ Apps a row → RowOpen s row → begins line (codes "app") ≡ true →
    (read : Result Done ℕ) → app_read spec a line ≡ read → with_done spec s a row read ≡ Ok t → Taken spec s t line
app_step spec s t line a row few stands begun first (Err rule) is h = absurd (let e = h in cc)
app_step spec s t line a row few stands begun first (Ok told) is h =
    let read = app_only spec a line told first is in
    let same : after_app spec s a (with_app row a told.act told.area) ≡ t = cc in
    let lines = lines_told spec row a read.app told.act told.area read.there few begun.acts begun.areas in
    let text : so_far spec s (Apps (a + 1) (with_app row a told.act told.area)) ≡ so_far spec s s.expected ++ (line ++ codes "\n")
    = ap (λ (text : List ℕ). rows_text spec s.rows ++ (row_line spec row ++ text)) (lines ∙ ap (λ (text : List ℕ). app_lines spec row (take a spec.apps) 0 ++ text) read.text)
    ∙ ap (λ (text : List ℕ). rows_text spec s.rows ++ text) (sym (append_assoc (row_line spec row) (app_lines spec row (take a spec.apps) 0) (line ++ codes "\n")))
    ∙ sym (append_assoc (rows_text spec s.rows) (row_line spec row ++ app_lines spec row (take a spec.apps) 0) (line ++ codes "\n"))
    ∙ ap (λ (expected : Expected). so_far spec s expected ++ (line ++ codes "\n")) (sym stands) in
    rw (← same) (after_by (nat_lt (a + 1) (length spec.apps)) spec s a (with_app row a told.act told.area) line (ltb-false (a + 1) (length spec.apps))
    (length-set row.acts a told.act ∙ begun.acts) (length-set row.areas a told.area ∙ begun.areas) begun.none text)

report_step : (spec : Parts) (s t : ReadingState) (line : List ℕ) → so_far spec s s.expected ≡ rows_text spec s.rows ++ reports_text spec s.reports → begins line (codes "reconfiguration") ≡ true →
    (read : Result Report ℕ) → report_read spec (length s.rows) line ≡ read → with_report s read ≡ Ok t → Taken spec s t line
report_step spec s t line stood first (Err rule) is h = absurd (let e = h in cc)
report_step spec s t line stood first (Ok report) is h =
    let told : report_line spec report ≡ line ++ codes "\n" = report_only spec (length s.rows) line report first is in
    let same : record { rows = s.rows; reports = s.reports ++ report ∷ []; expected = Reports } ≡ t = cc in
    let text : rows_text spec s.rows ++ reports_text spec (s.reports ++ report ∷ []) ≡ so_far spec s s.expected ++ (line ++ codes "\n")
    = ap (λ (text : List ℕ). rows_text spec s.rows ++ text) (reports_end spec s.reports report ∙ ap (λ (text : List ℕ). reports_text spec s.reports ++ text) told)
    ∙ sym (append_assoc (rows_text spec s.rows) (reports_text spec s.reports) (line ++ codes "\n")) ∙ ap (λ (text : List ℕ). text ++ (line ++ codes "\n")) (sym stood) in
    let made : Taken spec s (record { rows = s.rows; reports = s.reports ++ report ∷ []; expected = Reports }) line = record { sound = tt; text = text } in
    rw (← same) made

end_step : (spec : Parts) (s t : ReadingState) (line : List ℕ) → so_far spec s s.expected ≡ rows_text spec s.rows ++ reports_text spec s.reports → begins line (codes "end") ≡ true →
    (read : Result ⊤ ℕ) → end_read (length s.rows) (length s.reports) line ≡ read → with_end s read ≡ Ok t → Taken spec s t line
end_step spec s t line stood first (Err rule) is h = absurd (let e = h in cc)
end_step spec s t line stood first (Ok done) is h =
    let told : end_line (length s.rows) (length s.reports) ≡ line ++ codes "\n" = end_only (length s.rows) (length s.reports) line done first is in
    let same : record { rows = s.rows; reports = s.reports; expected = Over } ≡ t = cc in
    let text : rows_text spec s.rows ++ (reports_text spec s.reports ++ end_line (length s.rows) (length s.reports)) ≡ so_far spec s s.expected ++ (line ++ codes "\n")
    = ap (λ (text : List ℕ). rows_text spec s.rows ++ (reports_text spec s.reports ++ text)) told
    ∙ sym (append_assoc (rows_text spec s.rows) (reports_text spec s.reports) (line ++ codes "\n")) ∙ ap (λ (text : List ℕ). text ++ (line ++ codes "\n")) (sym stood) in
    let made : Taken spec s (record { rows = s.rows; reports = s.reports; expected = Over }) line = record { sound = tt; text = text } in
    rw (← same) made

closing_by : (r e : Bool) (spec : Parts) (s t : ReadingState) (line : List ℕ) → (r ≡ true → begins line (codes "reconfiguration") ≡ true) → (e ≡ true → begins line (codes "end") ≡ true) →
    so_far spec s s.expected ≡ rows_text spec s.rows ++ reports_text spec s.reports →
    cond r (with_report s (report_read spec (length s.rows) line)) (cond e (with_end s (end_read (length s.rows) (length s.reports) line)) (Err OUT_OF_PLACE)) ≡ Ok t → Taken spec s t line
closing_by true e spec s t line first second stood h = report_step spec s t line stood (first refl) (report_read spec (length s.rows) line) refl h
closing_by false true spec s t line first second stood h = end_step spec s t line stood (second refl) (end_read (length s.rows) (length s.reports) line) refl h
closing_by false false spec s t line first second stood h = absurd (let e = h in cc)

closing_step : (spec : Parts) (s t : ReadingState) (line : List ℕ) → so_far spec s s.expected ≡ rows_text spec s.rows ++ reports_text spec s.reports → closing spec s line ≡ Ok t → Taken spec s t line
closing_step spec s t line stood h = closing_by (begins line (codes "reconfiguration")) (begins line (codes "end")) spec s t line (λ e. e) (λ e. e) stood h

rows_by : (f : Bool) (spec : Parts) (s t : ReadingState) (line : List ℕ) → (f ≡ true → begins line (codes "frame") ≡ true) → length spec.factors ≤ 6 → s.expected ≡ Rows → s.reports ≡ [] →
    cond f (with_row s (row_read spec (length s.rows) line)) (closing spec s line) ≡ Ok t → Taken spec s t line
rows_by true spec s t line first few stands none h = row_step spec s t line few stands none (first refl) (row_read spec (length s.rows) line) refl h
rows_by false spec s t line first few stands none h =
    closing_step spec s t line (ap (so_far spec s) stands ∙ sym (append-nil (rows_text spec s.rows)) ∙ ap (λ (reports : List Report). rows_text spec s.rows ++ reports_text spec reports) (sym none)) h

apps_by : (f : Bool) (spec : Parts) (s t : ReadingState) (line : List ℕ) (a : ℕ) (row : Row) → (f ≡ true → begins line (codes "app") ≡ true) → length spec.apps ≤ 8 → s.expected ≡ Apps a row → RowOpen s row →
    cond f (with_done spec s a row (app_read spec a line)) (Err OUT_OF_PLACE) ≡ Ok t → Taken spec s t line
apps_by true spec s t line a row first few stands begun h = app_step spec s t line a row few stands begun (first refl) (app_read spec a line) refl h
apps_by false spec s t line a row first few stands begun h = absurd (let e = h in cc)

expected_step : (spec : Parts) (s t : ReadingState) (expected : Expected) (line : List ℕ) → length spec.factors ≤ 6 → length spec.apps ≤ 8 → s.expected ≡ expected → Sound s expected →
    expected_line spec s expected line ≡ Ok t → Taken spec s t line
expected_step spec s t Rows line few small stands sound h = rows_by (begins line (codes "frame")) spec s t line (λ e. e) few stands sound h
expected_step spec s t (Apps a row) line few small stands sound h = apps_by (begins line (codes "app")) spec s t line a row (λ e. e) small stands sound h
expected_step spec s t Reports line few small stands sound h = closing_step spec s t line (ap (so_far spec s) stands) h
expected_step spec s t Over line few small stands sound h = absurd (let e = h in cc)

-- Each line that is accepted is the printed text of what it adds to the state.
line_step : (spec : Parts) (s t : ReadingState) (line : List ℕ) → length spec.factors ≤ 6 → length spec.apps ≤ 8 → Sound s s.expected → after_line spec s line ≡ Ok t → Taken spec s t line
line_step spec s t line few small sound h = expected_step spec s t s.expected line few small refl sound (if_ok (is_plain line) (expected_line spec s s.expected line) BROKEN_LINE t h).1

ended : (spec : Parts) (k : ℕ) (s : ReadingState) (expected : Expected) (f : Flown) → at_end k s expected ≡ Ok f → so_far spec s expected ≡ text_of spec f.rows f.reports
ended spec k s Over f h = let e : record { rows = s.rows; reports = s.reports } ≡ f = cc in ap (λ (g : Flown). text_of spec g.rows g.reports) e
ended spec k s Rows f h = absurd (let e = h in cc)
ended spec k s (Apps a row) f h = absurd (let e = h in cc)
ended spec k s Reports f h = absurd (let e = h in cc)

last_empty : (spec : Parts) (k : ℕ) (s : ReadingState) (last : List ℕ) (f : Flown) → at_last k s last ≡ Ok f → so_far spec s s.expected ++ last ≡ text_of spec f.rows f.reports
last_empty spec k s [] f h = append-nil (so_far spec s s.expected) ∙ ended spec k s s.expected f h
last_empty spec k s (b ∷ last) f h = absurd (let t : nat_lt 0 (length (b ∷ last)) ≡ true = lt-ltb 0 (length (b ∷ last)) (omega arith) in let e : cond true (Err (fault_at k BROKEN_LINE)) (at_end k s s.expected) ≡ Ok f = rw t at h in cc)

go_by : (spec : Parts) (k : ℕ) (s : ReadingState) (line next : List ℕ) (lines : List (List ℕ)) (f : Flown) → length spec.factors ≤ 6 → length spec.apps ≤ 8 → Sound s s.expected →
    ((t : ReadingState) → Sound t t.expected → trace_from spec (k + 1) t (next ∷ lines) ≡ Ok f → so_far spec t t.expected ++ join_with_byte 10 (next ∷ lines) ≡ text_of spec f.rows f.reports) →
    (read : Result ReadingState ℕ) → after_line spec s line ≡ read → go_on k read (λ (t : ReadingState). trace_from spec (k + 1) t (next ∷ lines)) ≡ Ok f →
    so_far spec s s.expected ++ (line ++ 10 ∷ join_with_byte 10 (next ∷ lines)) ≡ text_of spec f.rows f.reports
go_by spec k s line next lines f few small sound more (Err rule) is h = absurd (let e = h in cc)
go_by spec k s line next lines f few small sound more (Ok t) is h =
    let step = line_step spec s t line few small sound is in
    let rest = join_with_byte 10 (next ∷ lines) in
    ap (λ (text : List ℕ). so_far spec s s.expected ++ text) (sym (append_assoc line (codes "\n") rest))
    ∙ sym (append_assoc (so_far spec s s.expected) (line ++ codes "\n") rest)
    ∙ ap (λ (text : List ℕ). text ++ rest) (sym step.text) ∙ more t step.sound h

lines_only : (spec : Parts) (k : ℕ) (s : ReadingState) (lines : List (List ℕ)) (f : Flown) → length spec.factors ≤ 6 → length spec.apps ≤ 8 → Sound s s.expected → 0 < length lines →
    trace_from spec k s lines ≡ Ok f → so_far spec s s.expected ++ join_with_byte 10 lines ≡ text_of spec f.rows f.reports
lines_only spec k s [] f few small sound some h = absurd (omega arith)
lines_only spec k s (last ∷ []) f few small sound some h = last_empty spec k s last f h
lines_only spec k s (line ∷ next ∷ lines) f few small sound some h =
    go_by spec k s line next lines f few small sound (λ t held read. lines_only spec (k + 1) t (next ∷ lines) f few small held (omega arith) read) (after_line spec s line) refl h

not_long : (t : Bool) (fault : TraceFault) (read : Result Flown TraceFault) (f : Flown) → cond t (Err fault) read ≡ Ok f → read ≡ Ok f
not_long true fault read f h = absurd (let e = h in cc)
not_long false fault read f h = h

-- If bytes are read as a trace, they are the printed text of the rows and reports that are read.
pub trace_only : (spec : Parts) (bytes : List ℕ) (f : Flown) → length spec.factors ≤ 6 → length spec.apps ≤ 8 → trace_of spec bytes ≡ Ok f → bytes ≡ text_of spec f.rows f.reports
trace_only spec bytes f few small h =
    let read = not_long (nat_lt MAX_TRACE_BYTES (length bytes)) (fault_at 0 WRONG_END) (trace_from spec 1 before_first (pieces_of 10 bytes)) f h in
    sym (join_with_byte-slice_split 10 bytes) ∙ lines_only spec 1 before_first (pieces_of 10 bytes) f few small refl (some_piece 10 bytes) read

-- If a property holds for each trace that is read, it holds for the trace that the reader returns.
answered : (P : Flown → Type 0) (reading : Result Flown TraceFault) (answer : Result Flown TraceError) → ((f : Flown) → reading ≡ Ok f → P f) → AnswersTrace reading answer → IfOk answer P
answered P reading (Ok f) holds h = holds f h
answered P reading (Err error) holds h = tt

module _ (spec : Parts) (bytes : List ℕ) (answer : Result Flown TraceError) (few : length spec.factors ≤ 6) (small : length spec.apps ≤ 8) (answers : AnswersTrace (trace_of spec bytes) answer) where
  pub answered_text : IfOk answer (λ (f : Flown). bytes ≡ text_of spec f.rows f.reports)
  answered_text =
      answered (λ (f : Flown). bytes ≡ text_of spec f.rows f.reports) (trace_of spec bytes) answer (λ f read. trace_only spec bytes f few small read) answers

  -- Reading the printed text of a trace that was read returns the same trace.
  pub answered_again : IfOk answer (λ (f : Flown). trace_of spec (text_of spec f.rows f.reports) ≡ Ok f)
  answered_again =
      answered (λ (f : Flown). trace_of spec (text_of spec f.rows f.reports) ≡ Ok f) (trace_of spec bytes) answer
      (λ f read. ap (trace_of spec) (sym (trace_only spec bytes f few small read)) ∙ read) answers
