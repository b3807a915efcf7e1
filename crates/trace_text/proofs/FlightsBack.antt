-- The printed text of a flight is read line by line, and is never too long.
use Rattle.std.proofs.Common.{ℕ, ℤ, pos, suc, zero, ◌≡◌, ◌<◌, ◌≤◌, ◌+◌, ◌*◌, ◌∙◌, Bool, true, false, List, [], ◌∷◌, ◌++◌, Some, Result, Ok, length, replicate, arith, refl, sym, ap, subst, length-append, append_assoc, append-nil, length-set}
use mathlib.Core.Logic.{inl, inr}
use Rattle.std.specs.Prelude.{codes, slice_get, slice_index_or, slice_set}
use Rattle.std.proofs.lemmas.Bool.{cases_eq, cases_lt, le-ltb, lt-ltb}
use Rattle.std.proofs.lemmas.List.{ext_get_or, get_or-set_other, get_or-set_same}
use Rattle.scram_types.specs.Specification.{IsSpec, Parts}
use Rattle.scram_types.specs.declared.rows.Env.{Env}
use Rattle.scram_types.specs.declared.rows.Flown.{Flown}
use Rattle.scram_types.specs.declared.rows.Report.{Report}
use Rattle.scram_types.specs.declared.rows.Row.{Row}
use Rattle.scram_types.specs.declared.rows.World.{World}
use Rattle.scram_types.specs.declared.limits.TheConstants.{MAX_FRAMES}
use Rattle.scram_types.specs.declared.orders.Act.{Act}
use Rattle.scram_types.specs.declared.orders.Act.TheVariants.{Off}
use Rattle.scram_types.specs.declared.orders.KMode.{KMode}
use Rattle.scram_types.specs.declared.specification.AppSpec.{AppSpec}
use Rattle.trace_text.specs.declared.progress.Expected.TheVariants.{Over}
use Rattle.trace_text.specs.Flights.{IsReportShown, IsRowShown, PrintedIsRead}
use Rattle.trace_text.specs.Pieces.{pieces_of}
use Rattle.trace_text.specs.RowReading.{row_begun}
use Rattle.trace_text.specs.Text.{app_line_in, app_lines, end_line, ending_text, report_line, reports_text, row_line, row_text, rows_text, text_of}
use Rattle.trace_text.specs.TraceReading.{ReadingState, after_app, after_line, go_on, trace_from, with_app}
use Rattle.trace_text.proofs.LinesBack.{LineBack, app_back, in_apps}
use Rattle.trace_text.proofs.ReportsBack.{end_back, in_closing, report_back}
use Rattle.trace_text.proofs.RowsBack.{in_rows, row_back}
use Rattle.trace_text.proofs.Splitting.{some_piece}
use Rattle.trace_text.proofs.Walk.{line_then, of_length}
use Rattle.trace_text.proofs.WordBytes.{line_split}

-- From state `s` on, a text is read as the flight `flown`, and it has at most `most` bytes.
record Reads (spec : Parts) (s : ReadingState) (text : List ℕ) (flown : Flown) (most : ℕ) : Type 0 where
  read : (k : ℕ) → trace_from spec k s (pieces_of 10 text) ≡ Ok flown
  short : length text ≤ most

after_plain : (spec : Parts) (s t : ReadingState) (text : List ℕ) (most : ℕ) (back : LineBack spec s t text most) → after_line spec s back.line ≡ Ok t
after_plain spec s t text most back = rw back.plain back.read

-- If a printed line takes state `s` to state `t`, and the text `rest` is read from `t` on, the line followed by
-- `rest` is read from `s` on.
before_lines : (spec : Parts) (s t : ReadingState) (text rest : List ℕ) (flown : Flown) (most more : ℕ) → LineBack spec s t text most → Reads spec t rest flown more →
    Reads spec s (text ++ rest) flown (most + more)
before_lines spec s t text rest flown most more back reads =
    let whole : text ++ rest ≡ back.line ++ 10 ∷ rest = ap (λ (l : List ℕ). l ++ rest) back.text_is ∙ append_assoc back.line (codes "\n") rest in
    let split : pieces_of 10 (text ++ rest) ≡ back.line ∷ pieces_of 10 rest = ap (pieces_of 10) whole ∙ line_split back.line rest back.plain in
    let size = length-append text rest in
    let one = back.short in
    let two = reads.short in
    record {
      read = λ k. ap (trace_from spec k s) split ∙ line_then spec k s back.line (pieces_of 10 rest) (some_piece 10 rest)
          ∙ ap (λ (r : Result ReadingState ℕ). go_on k r (λ (u : ReadingState). trace_from spec (k + 1) u (pieces_of 10 rest))) (after_plain spec s t text most back)
          ∙ reads.read (k + 1);
      short = omega (arith, size, one, two);
    }

-- If a text is read and has at most `most` bytes, an equal text is read and has at most `more` bytes. `more` must be
-- at least `most`.
same_lines : (spec : Parts) (s : ReadingState) (text other : List ℕ) (flown : Flown) (most more : ℕ) → text ≡ other → most ≤ more → Reads spec s text flown most → Reads spec s other flown more
same_lines spec s text other flown most more same wide reads =
    let low = reads.short in
    rw (← same) (record { read = reads.read; short = omega (arith, low, wide) })

over_read : (spec : Parts) (rows : List Row) (reports : List Report) → Reads spec (record { rows = rows; reports = reports; expected = Over }) [] (record { rows = rows; reports = reports }) 0
over_read spec rows reports = record { read = λ k. refl; short = omega arith }

-- Lemmas on the lines of reconfigurations and the end line.

ending_read : (early : Bool) (spec : Parts) (rows : List Row) (seen reports : List Report) → IsSpec spec → length rows ≤ MAX_FRAMES → length seen + length reports ≤ MAX_FRAMES →
    ((i : ℕ) (report : Report) → slice_get reports i ≡ Some report → IsReportShown spec (length rows) report) →
    Reads spec (in_closing early rows seen) (reports_text spec reports ++ end_line (length rows) (length seen + length reports)) (record { rows = rows; reports = seen ++ reports }) (100 * length reports + 60)
ending_read early spec rows seen [] sound few count shown =
    let all : length seen + 0 ≡ length seen = omega arith in
    let none : seen ++ [] ≡ seen = append-nil seen in
    let last = before_lines spec (in_closing early rows seen) (record { rows = rows; reports = seen; expected = Over }) (end_line (length rows) (length seen)) [] (record { rows = rows; reports = seen }) 60 0
    (end_back early spec rows seen few (omega (arith, count))) (over_read spec rows seen) in
    rw (all, none) (same_lines spec (in_closing early rows seen) (end_line (length rows) (length seen) ++ []) (end_line (length rows) (length seen)) (record { rows = rows; reports = seen }) (60 + 0) 60
    (append-nil (end_line (length rows) (length seen))) (omega arith) last)
ending_read early spec rows seen (report ∷ reports) sound few count shown =
    let grown : length (seen ++ report ∷ []) ≡ length seen + 1 = length-append seen (report ∷ []) in
    let sum : length (seen ++ report ∷ []) + length reports ≡ length seen + suc (length reports) = omega (arith, grown) in
    let all : (seen ++ report ∷ []) ++ reports ≡ seen ++ report ∷ reports = append_assoc seen (report ∷ []) reports in
    let more = ending_read false spec rows (seen ++ report ∷ []) reports sound few (omega (arith, sum, count)) (λ i x there. shown (suc i) x there) in
    let ending = end_line (length rows) (length seen + suc (length reports)) in
    let read : Reads spec (in_closing false rows (seen ++ report ∷ [])) (reports_text spec reports ++ ending) (record { rows = rows; reports = seen ++ report ∷ reports }) (100 * length reports + 60)
    = rw (← sum, ← all) more in
    same_lines spec (in_closing early rows seen) (report_line spec report ++ (reports_text spec reports ++ ending)) ((report_line spec report ++ reports_text spec reports) ++ ending)
    (record { rows = rows; reports = seen ++ report ∷ reports }) (100 + (100 * length reports + 60)) (100 * suc (length reports) + 60)
    (sym (append_assoc (report_line spec report) (reports_text spec reports) ending)) (omega arith)
    (before_lines spec (in_closing early rows seen) (in_closing false rows (seen ++ report ∷ [])) (report_line spec report) (reports_text spec reports ++ ending)
    (record { rows = rows; reports = seen ++ report ∷ reports }) 100 (100 * length reports + 60) (report_back early spec rows seen report sound few (shown 0 report refl)) read)

-- Lemmas on the lines of applications.

-- `part` is the row `row` after its first line and the lines of its first `a` applications have been read. Its other
-- acts are `Off`, and its other areas are zeros.
record IsPart (row part : Row) (a : ℕ) : Type 0 where
  frame : part.frame ≡ row.frame
  env : part.env ≡ row.env
  mode : part.mode ≡ row.mode
  world : part.world ≡ row.world
  acts_width : length part.acts ≡ 8
  areas_width : length part.areas ≡ 8
  acts : (i : ℕ) → i < a → slice_index_or part.acts i Off ≡ slice_index_or row.acts i Off
  acts_rest : (i : ℕ) → a ≤ i → slice_index_or part.acts i Off ≡ Off
  areas : (i : ℕ) → i < a → slice_index_or part.areas i [] ≡ slice_index_or row.areas i []
  areas_rest : (i : ℕ) → a ≤ i → i < 8 → slice_index_or part.areas i [] ≡ replicate 8 (pos 0)

off_at : (n i : ℕ) → slice_index_or (replicate n Off) i Off ≡ Off
off_at zero i = refl
off_at (suc n) zero = refl
off_at (suc n) (suc i) = off_at n i

zeros_at : (n i : ℕ) (zeros : List ℤ) → i < n → slice_index_or (replicate n zeros) i [] ≡ zeros
zeros_at zero i zeros below = absurd (omega (arith, below))
zeros_at (suc n) zero zeros below = refl
zeros_at (suc n) (suc i) zeros below = zeros_at n i zeros (omega (arith, below))

part_begun : (row : Row) → IsPart row (row_begun row.frame row.mode row.env row.world) 0
part_begun row = record {
  frame = refl;
  env = refl;
  mode = refl;
  world = refl;
  acts_width = refl;
  areas_width = refl;
  acts = λ i below. absurd (omega (arith, below));
  acts_rest = λ i from. off_at 8 i;
  areas = λ i below. absurd (omega (arith, below));
  areas_rest = λ i from below. zeros_at 8 i (replicate 8 (pos 0)) below;
}

set_part : {A : Type 0} (xs ys : List A) (a i : ℕ) (x d : A) → a < length xs → x ≡ slice_index_or ys a d → (i < a → slice_index_or xs i d ≡ slice_index_or ys i d) → i < a + 1 →
    slice_index_or (slice_set xs a x) i d ≡ slice_index_or ys i d
set_part xs ys a i x d room is before low = elim (cases_eq i a) [
  | inl same ↦ rw same (get_or-set_same xs a x d room ∙ is)
  | inr other ↦ get_or-set_other xs a i x d (λ e. other e) ∙ before (omega (arith, low, other))
]

part_grown : (row part : Row) (a : ℕ) → a < 8 → IsPart row part a → IsPart row (with_app part a (slice_index_or row.acts a Off) (slice_index_or row.areas a [])) (a + 1)
part_grown row part a small is =
    let one = is.acts_width in
    let two = is.areas_width in
    record {
      frame = is.frame;
      env = is.env;
      mode = is.mode;
      world = is.world;
      acts_width = length-set part.acts a (slice_index_or row.acts a Off) ∙ one;
      areas_width = length-set part.areas a (slice_index_or row.areas a []) ∙ two;
      acts = λ i below. set_part part.acts row.acts a i (slice_index_or row.acts a Off) Off (omega (arith, one, small)) refl (is.acts i) below;
      acts_rest = λ i from. get_or-set_other part.acts a i (slice_index_or row.acts a Off) Off (λ e. omega (arith, e, from)) ∙ is.acts_rest i (omega (arith, from));
      areas = λ i below. set_part part.areas row.areas a i (slice_index_or row.areas a []) [] (omega (arith, two, small)) refl (is.areas i) below;
      areas_rest = λ i from below. get_or-set_other part.areas a i (slice_index_or row.areas a []) [] (λ e. omega (arith, e, from)) ∙ is.areas_rest i (omega (arith, from)) below;
    }

abbrev row_with : ℕ → Env → KMode → List Act → List (List ℤ) → World → Row
row_with frame env mode acts areas world = record { frame = frame; env = env; mode = mode; acts = acts; areas = areas; world = world }

same_row : (f g : ℕ) (e v : Env) (m n : KMode) (a b : List Act) (c d : List (List ℤ)) (w x : World) → f ≡ g → e ≡ v → m ≡ n → a ≡ b → c ≡ d → w ≡ x → row_with f e m a c w ≡ row_with g v n b d x
same_row f g e v m n a b c d w x frame env mode acts areas world = rw (frame, env, mode, acts, areas, world) refl

whole_by : {A : Type 0} (xs ys : List A) (n : ℕ) (d : A) → length xs ≡ 8 → length ys ≡ 8 → ((i : ℕ) → i < n → slice_index_or xs i d ≡ slice_index_or ys i d) →
    ((i : ℕ) → n ≤ i → i < 8 → slice_index_or xs i d ≡ slice_index_or ys i d) → xs ≡ ys
whole_by xs ys n d one two before behind = ext_get_or d xs ys (one ∙ sym two) (λ i low. elim (cases_lt i n) [
  | inl early ↦ before i early
  | inr late ↦ behind i late (omega (arith, low, one))
])

part_whole : (spec : Parts) (f : ℕ) (row part : Row) → IsRowShown spec f row → IsPart row part (length spec.apps) → part ≡ row
part_whole spec f row part shown is =
    let acts : part.acts ≡ row.acts = whole_by part.acts row.acts (length spec.apps) Off is.acts_width shown.acts_width is.acts (λ i late low. is.acts_rest i late ∙ sym (shown.idle i late)) in
    let areas : part.areas ≡ row.areas = whole_by part.areas row.areas (length spec.apps) [] is.areas_width shown.areas_width is.areas
    (λ i late low. is.areas_rest i late low ∙ sym (shown.empty i late low)) in
    same_row part.frame row.frame part.env row.env part.mode row.mode part.acts row.acts part.areas row.areas part.world row.world is.frame is.env is.mode acts areas is.world

-- If an application's line is read, and the remaining lines are read after it, all of these lines are read.
one_app : (spec : Parts) (rows : List Row) (reports : List Report) (row part : Row) (a : ℕ) (app : AppSpec) (apps : List AppSpec) (t : ReadingState) (rest : List ℕ) (flown : Flown) (more : ℕ) →
    LineBack spec (in_apps rows reports a part) t (app_line_in spec row app a) 140 → Reads spec t (app_lines spec row apps (a + 1) ++ rest) flown (140 * length apps + more) →
    Reads spec (in_apps rows reports a part) (app_lines spec row (app ∷ apps) a ++ rest) flown (140 * suc (length apps) + more)
one_app spec rows reports row part a app apps t rest flown more back read =
    same_lines spec (in_apps rows reports a part) (app_line_in spec row app a ++ (app_lines spec row apps (a + 1) ++ rest)) ((app_line_in spec row app a ++ app_lines spec row apps (a + 1)) ++ rest) flown
    (140 + (140 * length apps + more)) (140 * suc (length apps) + more) (sym (append_assoc (app_line_in spec row app a) (app_lines spec row apps (a + 1)) rest)) (omega arith)
    (before_lines spec (in_apps rows reports a part) t (app_line_in spec row app a) (app_lines spec row apps (a + 1) ++ rest) flown 140 (140 * length apps + more) back read)

app_here : (spec : Parts) (rows : List Row) (reports : List Report) (f : ℕ) (row part : Row) (a : ℕ) (app : AppSpec) → IsSpec spec → IsRowShown spec f row → slice_get spec.apps a ≡ Some app → a < length spec.apps →
    LineBack spec (in_apps rows reports a part) (after_app spec (in_apps rows reports a part) a (with_app part a (slice_index_or row.acts a Off) (slice_index_or row.areas a []))) (app_line_in spec row app a) 140
app_here spec rows reports f row part a app sound shown here below =
    app_back spec rows reports a part app (slice_index_or row.acts a Off) (slice_index_or row.areas a []) sound here (shown.acts a app here) (shown.areas a below)

apps_read : (spec : Parts) (rows : List Row) (reports : List Report) (f : ℕ) (row part : Row) (a : ℕ) (app : AppSpec) (apps : List AppSpec) (rest : List ℕ) (flown : Flown) (more : ℕ) →
    IsSpec spec → IsRowShown spec f row → IsPart row part a → length spec.apps ≡ a + suc (length apps) →
    ((i : ℕ) (x : AppSpec) → slice_get (app ∷ apps) i ≡ Some x → slice_get spec.apps (a + i) ≡ Some x) → Reads spec (in_rows (rows ++ row ∷ []) reports) rest flown more →
    Reads spec (in_apps rows reports a part) (app_lines spec row (app ∷ apps) a ++ rest) flown (140 * suc (length apps) + more)
apps_read spec rows reports f row part a app [] rest flown more sound shown is count there read =
    let few = sound.apps_count.few in
    let low : a < length spec.apps = omega (arith, count) in
    let here : slice_get spec.apps a ≡ Some app = let none : a + 0 ≡ a = omega arith in rw none at (there 0 app refl) in
    let next = with_app part a (slice_index_or row.acts a Off) (slice_index_or row.areas a []) in
    let grown : IsPart row next (a + 1) = part_grown row part a (omega (arith, few, low)) is in
    let last : a + 1 ≡ length spec.apps = omega (arith, count) in
    let whole : next ≡ row = part_whole spec f row next shown (rw last at grown) in
    let after : after_app spec (in_apps rows reports a part) a next ≡ in_rows (rows ++ row ∷ []) reports = rw (le-ltb (a + 1) (length spec.apps) (omega (arith, last)), whole) refl in
    one_app spec rows reports row part a app [] (in_rows (rows ++ row ∷ []) reports) rest flown more
    (rw after at (app_here spec rows reports f row part a app sound shown here low)) (same_lines spec (in_rows (rows ++ row ∷ []) reports) rest rest flown more (140 * 0 + more) refl (omega arith) read)
apps_read spec rows reports f row part a app (other ∷ apps) rest flown more sound shown is count there read =
    let few = sound.apps_count.few in
    let low : a < length spec.apps = omega (arith, count) in
    let here : slice_get spec.apps a ≡ Some app = let none : a + 0 ≡ a = omega arith in rw none at (there 0 app refl) in
    let next = with_app part a (slice_index_or row.acts a Off) (slice_index_or row.areas a []) in
    let grown : IsPart row next (a + 1) = part_grown row part a (omega (arith, few, low)) is in
    let after : after_app spec (in_apps rows reports a part) a next ≡ in_apps rows reports (a + 1) next = rw (lt-ltb (a + 1) (length spec.apps) (omega (arith, count))) refl in
    one_app spec rows reports row part a app (other ∷ apps) (in_apps rows reports (a + 1) next) rest flown more
    (rw after at (app_here spec rows reports f row part a app sound shown here low))
    (apps_read spec rows reports f row next (a + 1) other apps rest flown more sound shown grown (omega (arith, count))
    (λ i x at_i. let e : (a + 1) + i ≡ a + suc i = omega arith in rw e (there (suc i) x at_i)) read)

all_apps : (spec : Parts) (rows : List Row) (reports : List Report) (f : ℕ) (row : Row) (apps : List AppSpec) (rest : List ℕ) (flown : Flown) (more : ℕ) → spec.apps ≡ apps →
    IsSpec spec → IsRowShown spec f row → Reads spec (in_rows (rows ++ row ∷ []) reports) rest flown more →
    Reads spec (in_apps rows reports 0 (row_begun row.frame row.mode row.env row.world)) (app_lines spec row apps 0 ++ rest) flown (1120 + more)
all_apps spec rows reports f row [] rest flown more is sound shown read =
    let some = sound.apps_count.enough in
    absurd (let none : length spec.apps ≡ 0 = ap length is in omega (arith, some, none))
all_apps spec rows reports f row (app ∷ apps) rest flown more is sound shown read =
    let few = sound.apps_count.few in
    let count : length spec.apps ≡ 0 + suc (length apps) = ap length is ∙ omega arith in
    same_lines spec (in_apps rows reports 0 (row_begun row.frame row.mode row.env row.world)) (app_lines spec row (app ∷ apps) 0 ++ rest) (app_lines spec row (app ∷ apps) 0 ++ rest) flown
    (140 * suc (length apps) + more) (1120 + more) refl (omega (arith, few, count))
    (apps_read spec rows reports f row (row_begun row.frame row.mode row.env row.world) 0 app apps rest flown more sound shown (part_begun row) count
    (λ i x there. let e : 0 + i ≡ i = omega arith in rw (e, is) there) read)

-- Lemmas on the lines of rows.

row_read_back : (spec : Parts) (rows : List Row) (row : Row) (rest : List ℕ) (flown : Flown) (more : ℕ) → IsSpec spec → length rows < MAX_FRAMES → IsRowShown spec (length rows) row →
    Reads spec (in_rows (rows ++ row ∷ []) []) rest flown more → Reads spec (in_rows rows []) (row_text spec row ++ rest) flown (1520 + more)
row_read_back spec rows row rest flown more sound few shown read =
    let frame : length rows ≡ row.frame = sym shown.frame in
    let begun = row_back spec rows [] row.mode row.env row.world sound few shown.mode shown.env shown.world in
    let line : LineBack spec (in_rows rows []) (in_apps rows [] 0 (row_begun row.frame row.mode row.env row.world)) (row_line spec row) 400
    = subst (λ (n : ℕ). LineBack spec (in_rows rows []) (in_apps rows [] 0 (row_begun n row.mode row.env row.world)) (row_line spec (row_begun n row.mode row.env row.world)) 400) frame begun in
    same_lines spec (in_rows rows []) (row_line spec row ++ (app_lines spec row spec.apps 0 ++ rest)) (row_text spec row ++ rest) flown (400 + (1120 + more)) (1520 + more)
    (sym (append_assoc (row_line spec row) (app_lines spec row spec.apps 0) rest)) (omega arith)
    (before_lines spec (in_rows rows []) (in_apps rows [] 0 (row_begun row.frame row.mode row.env row.world)) (row_line spec row) (app_lines spec row spec.apps 0 ++ rest) flown 400 (1120 + more) line
    (all_apps spec rows [] (length rows) row spec.apps rest flown more refl sound shown read))

rows_read : (spec : Parts) (seen rows : List Row) (rest : List ℕ) (flown : Flown) (more : ℕ) → IsSpec spec → length seen + length rows ≤ MAX_FRAMES →
    ((i : ℕ) (row : Row) → slice_get rows i ≡ Some row → IsRowShown spec (length seen + i) row) → Reads spec (in_rows (seen ++ rows) []) rest flown more →
    Reads spec (in_rows seen []) (rows_text spec rows ++ rest) flown (1520 * length rows + more)
rows_read spec seen [] rest flown more sound few shown read =
    let all : seen ++ [] ≡ seen = append-nil seen in
    same_lines spec (in_rows seen []) rest rest flown more (1520 * 0 + more) refl (omega arith) (rw all at read)
rows_read spec seen (row ∷ rows) rest flown more sound few shown read =
    let grown : length (seen ++ row ∷ []) ≡ length seen + 1 = length-append seen (row ∷ []) in
    let all : (seen ++ row ∷ []) ++ rows ≡ seen ++ row ∷ rows = append_assoc seen (row ∷ []) rows in
    let first : IsRowShown spec (length seen) row = let e : length seen + 0 ≡ length seen = omega arith in rw e at (shown 0 row refl) in
    let others = rows_read spec (seen ++ row ∷ []) rows rest flown more sound (omega (arith, grown, few))
    (λ i x there. let e : length (seen ++ row ∷ []) + i ≡ length seen + suc i = omega (arith, grown) in rw e (shown (suc i) x there)) (rw all read) in
    same_lines spec (in_rows seen []) (row_text spec row ++ (rows_text spec rows ++ rest)) ((row_text spec row ++ rows_text spec rows) ++ rest) flown
    (1520 + (1520 * length rows + more)) (1520 * suc (length rows) + more) (sym (append_assoc (row_text spec row) (rows_text spec rows) rest)) (omega arith)
    (row_read_back spec seen row (rows_text spec rows ++ rest) flown (1520 * length rows + more) sound (omega (arith, few)) first others)

pub printed_is_read : PrintedIsRead
printed_is_read spec rows reports sound flight =
    let frames = flight.frames in
    let few = flight.few in
    let ending = ending_read true spec rows [] reports sound frames (omega (arith, frames, few)) flight.reports_shown in
    let same : 0 + length reports ≡ length reports = omega arith in
    let ended : Reads spec (in_rows rows []) (ending_text spec (length rows) reports) (record { rows = rows; reports = reports }) (100 * length reports + 60) = rw same at ending in
    let whole = rows_read spec [] rows (ending_text spec (length rows) reports) (record { rows = rows; reports = reports }) (100 * length reports + 60) sound (omega (arith, frames))
    (λ i row there. let e : 0 + i ≡ i = omega arith in rw e (flight.rows_shown i row there)) ended in
    let size = whole.short in
    of_length spec (text_of spec rows reports) (omega (arith, size, frames, few)) ∙ whole.read 1
