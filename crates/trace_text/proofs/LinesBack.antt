-- The printed line of each application is read back.
use Rattle.std.proofs.Common.{ℕ, ℤ, suc, ◌≡◌, ◌<◌, ◌≤◌, ◌*◌, ◌^◌, ◌∙◌, true, false, List, [], ◌∷◌, ◌++◌, Some, Ok, length, map, decimal, arith, refl, sym, subst, length-append}
use Rattle.std.specs.Prelude.{◌==◌, bytes_eq, codes, nat_le, slice_get}
use Rattle.std.specs.Fmt.{signed_decimal}
use Rattle.std.specs.List.{list_all}
use Rattle.std.proofs.lemmas.Bool.{and_from, and_parts, eq-eqb, le-leb, lt-ltb}
use Rattle.std.proofs.lemmas.List.Folds.{list_all-append}
use Rattle.std.proofs.lemmas.Fmt.{length-decimal-le, length_signed_le}
use Rattle.scram_types.specs.Specification.{Each, IsSpec, Parts}
use Rattle.scram_types.specs.Lookups.{proc_name}
use Rattle.scram_types.specs.declared.rows.Report.{Report}
use Rattle.scram_types.specs.declared.rows.Row.{Row}
use Rattle.scram_types.specs.declared.ids.Mode.{Mode}
use Rattle.scram_types.specs.declared.ids.ProcId.{ProcId}
use Rattle.scram_types.specs.declared.orders.Act.{Act}
use Rattle.scram_types.specs.declared.orders.Act.TheVariants as act
use Rattle.scram_types.specs.declared.specification.AppSpec.{AppSpec}
use Rattle.scram_types.proofs.FoundByName.{proc_found_back}
use Rattle.kind_table.specs.Names.{mode_text}
use Rattle.trace_text.specs.declared.app_reading.Phase.{Phase}
use Rattle.trace_text.specs.declared.app_reading.Phase.TheVariants.{Halting, Preparing, Initialising}
use Rattle.trace_text.specs.declared.progress.Expected.TheVariants.{Apps}
use Rattle.trace_text.specs.AppReading.{app_in, bare_act, done, phase_act, phase_named}
use Rattle.trace_text.specs.Flights.{IsActShown, IsAreaShown, IsRun, IsShown, IsStep}
use Rattle.trace_text.specs.Pieces.{is_filled, sides_of}
use Rattle.trace_text.specs.Spelling.{signed_from, signed_of, spelled_number}
use Rattle.trace_text.specs.Text.{app_line, area_text}
use Rattle.trace_text.specs.TraceReading.{ReadingState, after_app, is_plain, expected_line, with_app}
use Rattle.trace_text.proofs.AppOnly.{phase_line_text, tag_of}
use Rattle.trace_text.proofs.NamesBack.{app_found_back, listed_back, mode_spelled, mode_valid, proc_back}
use Rattle.trace_text.proofs.Shapes.{bare_shape, ran_shape}
use Rattle.trace_text.proofs.Spelling.{number_some, signed_some}
use Rattle.trace_text.proofs.WordBytes.{all_over, decimal_over, decimal_visible, is_visible, line_length, line_of, line_plain, name_short, name_visible, over, pieces_back, signed_visible, width, words_back, words_in_back}

-- A text is a printed line that takes state `s` to state `t`, and it has at most `most` bytes. `line` is the text
-- without the line feed.
pub record LineBack (spec : Parts) (s t : ReadingState) (text : List ℕ) (most : ℕ) : Type 0 where
  pub line : List ℕ
  pub text_is : text ≡ line ++ codes "\n"
  pub plain : is_plain line ≡ true
  pub read : expected_line spec s s.expected line ≡ Ok t
  pub short : length text ≤ most

pub from_words : (spec : Parts) (s t : ReadingState) (word : List ℕ) (words : List (List ℕ)) (text : List ℕ) (most : ℕ) → list_all is_visible (word ∷ words) ≡ true → width (word ∷ words) ≤ most → most ≤ 513 →
    line_of (word ∷ words) ++ codes "\n" ≡ text → expected_line spec s s.expected (line_of (word ∷ words)) ≡ Ok t → LineBack spec s t text most
from_words spec s t word words text most visible narrow few is read =
    let size = line_length word words in
    let sum = length-append (line_of (word ∷ words)) (codes "\n") in
    record {
      line = line_of (word ∷ words);
      text_is = sym is;
      plain = line_plain word words visible (omega (arith, narrow, few));
      read = read;
      short = subst (λ (t : List ℕ). length t ≤ most) is (omega (arith, size, sum, narrow));
    }

-- Lemmas on printed numbers.

pub number_back : (limit n : ℕ) → n < limit → n < 2 ^ 64 → spelled_number limit (decimal n) ≡ Some n
number_back limit n small fits = number_some limit n (decimal n) small fits refl

pub shown_back : (z : ℤ) → IsShown z → signed_of (signed_decimal z) ≡ Some z
shown_back z shown = signed_some z (signed_decimal z) (omega (arith, shown)) refl

pub shown_visible : (z : ℤ) → IsShown z → is_visible (signed_decimal z) ≡ true
shown_visible z shown = signed_visible z (omega (arith, shown))

pub shown_short : (z : ℤ) → IsShown z → length (signed_decimal z) ≤ 8
shown_short z shown = length_signed_le 7 z (omega (arith, shown)) (omega (arith, shown))

pub frame_short : (n : ℕ) → n ≤ 20000 → length (decimal n) ≤ 5
frame_short n small = length-decimal-le 5 n (omega arith) (omega (arith, small)) (omega (arith, small))

-- Lemmas on printed areas.

with_eight : (P : List ℤ → Type 0) (area : List ℤ) → length area ≡ 8 → ((a b c d e f g h : ℤ) → P (a ∷ b ∷ c ∷ d ∷ e ∷ f ∷ g ∷ h ∷ [])) → P area
with_eight P [] width then = absurd (omega (arith, width))
with_eight P (a ∷ []) width then = absurd (omega (arith, width))
with_eight P (a ∷ b ∷ []) width then = absurd (omega (arith, width))
with_eight P (a ∷ b ∷ c ∷ []) width then = absurd (omega (arith, width))
with_eight P (a ∷ b ∷ c ∷ d ∷ []) width then = absurd (omega (arith, width))
with_eight P (a ∷ b ∷ c ∷ d ∷ e ∷ []) width then = absurd (omega (arith, width))
with_eight P (a ∷ b ∷ c ∷ d ∷ e ∷ f ∷ []) width then = absurd (omega (arith, width))
with_eight P (a ∷ b ∷ c ∷ d ∷ e ∷ f ∷ g ∷ []) width then = absurd (omega (arith, width))
with_eight P (a ∷ b ∷ c ∷ d ∷ e ∷ f ∷ g ∷ h ∷ []) width then = then a b c d e f g h
with_eight P (a ∷ b ∷ c ∷ d ∷ e ∷ f ∷ g ∷ h ∷ i ∷ more) width then = absurd (omega (arith, width))

area_visible : (area : List ℤ) → Each IsShown area → list_all is_visible (map signed_decimal area) ≡ true
area_visible [] shown = refl
area_visible (z ∷ area) shown = and_from _ _ (shown_visible z (shown 0 z refl)) (area_visible area (λ i x there. shown (suc i) x there))

area_narrow : (area : List ℤ) → Each IsShown area → width (map signed_decimal area) ≤ 9 * length area
area_narrow [] shown = omega arith
area_narrow (z ∷ area) shown =
    let one = shown_short z (shown 0 z refl) in
    let more = area_narrow area (λ i x there. shown (suc i) x there) in
    omega (arith, one, more)

abbrev words_placed : List ℕ → List ℕ → List ℕ → List ℕ → List ℤ → List (List ℕ)
words_placed name tag with_it proc area = codes "app" ∷ name ∷ tag ∷ with_it ∷ proc ∷ codes ":" ∷ map signed_decimal area

abbrev words_bare : List ℕ → List ℕ → List ℤ → List (List ℕ)
words_bare name tag area = codes "app" ∷ name ∷ tag ∷ codes ":" ∷ map signed_decimal area

abbrev AreaFrom : (List ℤ → List (List ℕ)) → ℕ → List ℤ → Type 0
AreaFrom words k area = Each IsShown area → signed_from 8 k (words area) ≡ Some area

area_placed : (name tag with_it proc : List ℕ) (area : List ℤ) → IsAreaShown area → signed_from 8 6 (words_placed name tag with_it proc area) ≡ Some area
area_placed name tag with_it proc area shown =
    with_eight (AreaFrom (words_placed name tag with_it proc) 6) area shown.width
    (λ a b c d e f g h each. rw (
      shown_back a (each 0 a refl),
      shown_back b (each 1 b refl),
      shown_back c (each 2 c refl),
      shown_back d (each 3 d refl),
      shown_back e (each 4 e refl),
      shown_back f (each 5 f refl),
      shown_back g (each 6 g refl),
      shown_back h (each 7 h refl),
    ) refl)
    shown.words

area_bare : (name tag : List ℕ) (area : List ℤ) → IsAreaShown area → signed_from 8 4 (words_bare name tag area) ≡ Some area
area_bare name tag area shown =
    with_eight (AreaFrom (words_bare name tag) 4) area shown.width
    (λ a b c d e f g h each. rw (
      shown_back a (each 0 a refl),
      shown_back b (each 1 b refl),
      shown_back c (each 2 c refl),
      shown_back d (each 3 d refl),
      shown_back e (each 4 e refl),
      shown_back f (each 5 f refl),
      shown_back g (each 6 g refl),
      shown_back h (each 7 h refl),
    ) refl)
    shown.words

-- Lemmas on the lines of applications.

abbrev pub in_apps : List Row → List Report → ℕ → Row → ReadingState
in_apps rows reports a row = record { rows = rows; reports = reports; expected = Apps a row }

abbrev AppBack : Parts → List Row → List Report → ℕ → Row → AppSpec → Act → List ℤ → Type 0
AppBack spec rows reports a row app did area =
    LineBack spec (in_apps rows reports a row) (after_app spec (in_apps rows reports a row) a (with_app row a did area)) (app_line spec app did area) 140

app_taken : (spec : Parts) (rows : List Row) (reports : List Report) (a : ℕ) (row : Row) (words : List (List ℕ)) (did : Act) (area : List ℤ) →
    list_all is_visible (codes "app" ∷ words) ≡ true → nat_le (length (codes "app" ∷ words)) 16 ≡ true → app_in spec a (codes "app" ∷ words) ≡ Ok (done did area) →
    expected_line spec (in_apps rows reports a row) (Apps a row) (line_of (codes "app" ∷ words)) ≡ Ok (after_app spec (in_apps rows reports a row) a (with_app row a did area))
app_taken spec rows reports a row words did area visible few read =
    rw (words_in_back (codes "app") words visible few, words_back (codes "app") words visible, read) refl

few_placed : (name tag with_it proc : List ℕ) (area : List ℤ) → length area ≡ 8 → nat_le (length (words_placed name tag with_it proc area)) 16 ≡ true
few_placed name tag with_it proc area width = with_eight (λ (l : List ℤ). nat_le (length (words_placed name tag with_it proc l)) 16 ≡ true) area width (λ a b c d e f g h. refl)

form_placed : (name tag with_it proc : List ℕ) (area : List ℤ) → length area ≡ 8 → (length (words_placed name tag with_it proc area) == 14) ≡ true
form_placed name tag with_it proc area width = with_eight (λ (l : List ℤ). (length (words_placed name tag with_it proc l) == 14) ≡ true) area width (λ a b c d e f g h. refl)

few_bare : (name tag : List ℕ) (area : List ℤ) → length area ≡ 8 → nat_le (length (words_bare name tag area)) 16 ≡ true
few_bare name tag area width = with_eight (λ (l : List ℤ). nat_le (length (words_bare name tag l)) 16 ≡ true) area width (λ a b c d e f g h. refl)

form_bare : (name tag : List ℕ) (area : List ℤ) → length area ≡ 8 → (length (words_bare name tag area) == 12) ≡ true
form_bare name tag area width = with_eight (λ (l : List ℤ). (length (words_bare name tag l) == 12) ≡ true) area width (λ a b c d e f g h. refl)

other_bare : (name tag : List ℕ) (area : List ℤ) → length area ≡ 8 → (length (words_bare name tag area) == 14) ≡ false
other_bare name tag area width = with_eight (λ (l : List ℤ). (length (words_bare name tag l) == 14) ≡ false) area width (λ a b c d e f g h. refl)

ran_back : (spec : Parts) (rows : List Row) (reports : List Report) (a : ℕ) (row : Row) (app : AppSpec) (mode : Mode) (proc : ProcId) (area : List ℤ) → IsSpec spec →
    slice_get spec.apps a ≡ Some app → IsRun spec app mode proc → IsAreaShown area → AppBack spec rows reports a row app (act.Ran mode proc) area
ran_back spec rows reports a row app mode proc area sound there run shown =
    let facts = sound.apps a app there in
    let name = sound.names.apps a app there in
    let spelled = mode_spelled app.kind.0 facts.kind mode.0 (mode_valid app.kind.0 app.modes mode.0 facts.modes run.listed) in
    let on = proc_back spec proc sound run.on in
    let visible : list_all is_visible (words_placed app.name (codes "ran") (mode_text app.kind.0 mode.0) (proc_name spec proc.0) area) ≡ true
    = rw (name_visible app.name name, name_visible (mode_text app.kind.0 mode.0) spelled, name_visible (proc_name spec proc.0) on.spelled, area_visible area shown.words) refl in
    let one = name_short app.name name in
    let two = name_short (mode_text app.kind.0 mode.0) spelled in
    let three = name_short (proc_name spec proc.0) on.spelled in
    let rest = area_narrow area shown.words in
    let eight = shown.width in
    let read : app_in spec a (words_placed app.name (codes "ran") (mode_text app.kind.0 mode.0) (proc_name spec proc.0) area) ≡ Ok (done (act.Ran mode proc) area)
    = rw (
      form_placed app.name (codes "ran") (mode_text app.kind.0 mode.0) (proc_name spec proc.0) area shown.width,
      app_found_back spec a app sound there,
      listed_back spec a app mode sound there run.listed,
      proc_found_back spec proc sound run.on,
      area_placed app.name (codes "ran") (mode_text app.kind.0 mode.0) (proc_name spec proc.0) area shown,
      eq-eqb a a refl,
    ) refl in
    from_words spec (in_apps rows reports a row) _ (codes "app") (app.name ∷ codes "ran" ∷ mode_text app.kind.0 mode.0 ∷ proc_name spec proc.0 ∷ codes ":" ∷ map signed_decimal area)
    (app_line spec app (act.Ran mode proc) area) 140 visible (omega (arith, one, two, three, rest, eight)) (omega arith)
    (ran_shape app.name (mode_text app.kind.0 mode.0) (proc_name spec proc.0) area)
    (app_taken spec rows reports a row (app.name ∷ codes "ran" ∷ mode_text app.kind.0 mode.0 ∷ proc_name spec proc.0 ∷ codes ":" ∷ map signed_decimal area) (act.Ran mode proc) area visible
    (few_placed app.name (codes "ran") (mode_text app.kind.0 mode.0) (proc_name spec proc.0) area shown.width) read)

step_of : (spec : Parts) (k n : ℕ) (proc : ProcId) (phase : Phase) (app : AppSpec) → IsActShown spec app (phase_act phase k n proc) → IsStep spec k n proc
step_of spec k n proc Halting app shown = shown
step_of spec k n proc Preparing app shown = shown
step_of spec k n proc Initialising app shown = shown

tag_visible : (phase : Phase) → is_visible (tag_of phase) ≡ true
tag_visible Halting = refl
tag_visible Preparing = refl
tag_visible Initialising = refl

tag_short : (phase : Phase) → length (tag_of phase) ≤ 12
tag_short Halting = omega arith
tag_short Preparing = omega arith
tag_short Initialising = omega arith

fraction_visible : (k n : ℕ) → k < 256 → n < 256 → is_visible (decimal k ++ 47 ∷ decimal n) ≡ true
fraction_visible k n small low =
    let a = and_parts (is_filled (decimal k)) (all_over 33 (decimal k)) (decimal_visible k (omega (arith, small))) in
    let b = and_parts (is_filled (decimal n)) (all_over 33 (decimal n)) (decimal_visible n (omega (arith, low))) in
    let size = length-append (decimal k) (47 ∷ decimal n) in
    and_from _ _ (lt-ltb 0 _ (omega (arith, size)))
    (list_all-append (over 33) (decimal k) (47 ∷ decimal n) ∙ and_from _ _ a.1 b.1)

fraction_back : (k n : ℕ) → k < 256 → n < 256 → sides_of (decimal k ++ 47 ∷ decimal n) ≡ Some (decimal k, decimal n)
fraction_back k n small low =
    let a = decimal_over k (omega (arith, small)) in
    let b = decimal_over n (omega (arith, low)) in
    rw (pieces_back 47 48 (decimal k) (decimal n ∷ []) (omega arith) (and_from _ _ a (and_from _ _ b refl))) refl

fraction_short : (k n : ℕ) → k < 256 → n < 256 → length (decimal k ++ 47 ∷ decimal n) ≤ 7
fraction_short k n small low =
    let a = length-decimal-le 3 k (omega arith) (omega (arith, small)) (omega (arith, small)) in
    let b = length-decimal-le 3 n (omega arith) (omega (arith, low)) (omega (arith, low)) in
    let size = length-append (decimal k) (47 ∷ decimal n) in
    omega (arith, a, b, size)

in_phase : (spec : Parts) (a : ℕ) (app : AppSpec) (k n : ℕ) (proc : ProcId) (tag : List ℕ) (phase : Phase) (area : List ℤ) → IsSpec spec → slice_get spec.apps a ≡ Some app → IsStep spec k n proc → IsAreaShown area →
    bytes_eq tag (codes "ran") ≡ false → phase_named tag ≡ Some phase →
    app_in spec a (words_placed app.name tag (decimal k ++ 47 ∷ decimal n) (proc_name spec proc.0) area) ≡ Ok (done (phase_act phase k n proc) area)
in_phase spec a app k n proc tag phase area sound there step shown not_ran named =
    let in_it = step.inside in
    let most = step.most in
    let low : n < 256 = omega (arith, most) in
    let small : k < 256 = omega (arith, in_it, most) in
    rw (
      form_placed app.name tag (decimal k ++ 47 ∷ decimal n) (proc_name spec proc.0) area shown.width,
      not_ran,
      named,
      fraction_back k n small low,
      app_found_back spec a app sound there,
      proc_found_back spec proc sound step.on,
      number_back 256 k small (omega (arith, small)),
      number_back 256 n low (omega (arith, low)),
      area_placed app.name tag (decimal k ++ 47 ∷ decimal n) (proc_name spec proc.0) area shown,
      eq-eqb a a refl,
      lt-ltb k n in_it,
      le-leb n 16 most,
    ) refl

phase_in : (spec : Parts) (a : ℕ) (app : AppSpec) (k n : ℕ) (proc : ProcId) (phase : Phase) (area : List ℤ) → IsSpec spec → slice_get spec.apps a ≡ Some app → IsStep spec k n proc → IsAreaShown area →
    app_in spec a (words_placed app.name (tag_of phase) (decimal k ++ 47 ∷ decimal n) (proc_name spec proc.0) area) ≡ Ok (done (phase_act phase k n proc) area)
phase_in spec a app k n proc Halting area sound there step shown = in_phase spec a app k n proc (codes "halting") Halting area sound there step shown refl refl
phase_in spec a app k n proc Preparing area sound there step shown = in_phase spec a app k n proc (codes "preparing") Preparing area sound there step shown refl refl
phase_in spec a app k n proc Initialising area sound there step shown = in_phase spec a app k n proc (codes "initialising") Initialising area sound there step shown refl refl

phase_back : (spec : Parts) (rows : List Row) (reports : List Report) (a : ℕ) (row : Row) (app : AppSpec) (k n : ℕ) (proc : ProcId) (phase : Phase) (area : List ℤ) → IsSpec spec →
    slice_get spec.apps a ≡ Some app → IsStep spec k n proc → IsAreaShown area → AppBack spec rows reports a row app (phase_act phase k n proc) area
phase_back spec rows reports a row app k n proc phase area sound there step shown =
    let name = sound.names.apps a app there in
    let on = proc_back spec proc sound step.on in
    let in_it = step.inside in
    let top = step.most in
    let low : n < 256 = omega (arith, top) in
    let small : k < 256 = omega (arith, in_it, top) in
    let visible : list_all is_visible (words_placed app.name (tag_of phase) (decimal k ++ 47 ∷ decimal n) (proc_name spec proc.0) area) ≡ true
    = rw (name_visible app.name name, tag_visible phase, fraction_visible k n small low, name_visible (proc_name spec proc.0) on.spelled, area_visible area shown.words) refl in
    let one = name_short app.name name in
    let two = tag_short phase in
    let three = fraction_short k n small low in
    let four = name_short (proc_name spec proc.0) on.spelled in
    let rest = area_narrow area shown.words in
    let eight = shown.width in
    from_words spec (in_apps rows reports a row) _ (codes "app") (app.name ∷ tag_of phase ∷ (decimal k ++ 47 ∷ decimal n) ∷ proc_name spec proc.0 ∷ codes ":" ∷ map signed_decimal area)
    (app_line spec app (phase_act phase k n proc) area) 140 visible (omega (arith, one, two, three, four, rest, eight)) (omega arith)
    (phase_line_text spec app phase k n proc area)
    (app_taken spec rows reports a row (app.name ∷ tag_of phase ∷ (decimal k ++ 47 ∷ decimal n) ∷ proc_name spec proc.0 ∷ codes ":" ∷ map signed_decimal area) (phase_act phase k n proc) area visible
    (few_placed app.name (tag_of phase) (decimal k ++ 47 ∷ decimal n) (proc_name spec proc.0) area shown.width) (phase_in spec a app k n proc phase area sound there step shown))

bare_back : (spec : Parts) (rows : List Row) (reports : List Report) (a : ℕ) (row : Row) (app : AppSpec) (tag : List ℕ) (did : Act) (area : List ℤ) → IsSpec spec →
    slice_get spec.apps a ≡ Some app → IsAreaShown area → bare_act tag ≡ Some did → is_visible tag ≡ true → length tag ≤ 4 →
    codes "app " ++ app.name ++ codes " " ++ tag ++ codes " :" ++ area_text area ++ codes "\n" ≡ app_line spec app did area → AppBack spec rows reports a row app did area
bare_back spec rows reports a row app tag did area sound there shown told seen short is =
    let name = sound.names.apps a app there in
    let visible : list_all is_visible (words_bare app.name tag area) ≡ true = rw (name_visible app.name name, seen, area_visible area shown.words) refl in
    let one = name_short app.name name in
    let rest = area_narrow area shown.words in
    let eight = shown.width in
    let read : app_in spec a (words_bare app.name tag area) ≡ Ok (done did area)
    = rw (other_bare app.name tag area shown.width, form_bare app.name tag area shown.width, told, app_found_back spec a app sound there, area_bare app.name tag area shown, eq-eqb a a refl) refl in
    from_words spec (in_apps rows reports a row) _ (codes "app") (app.name ∷ tag ∷ codes ":" ∷ map signed_decimal area) (app_line spec app did area) 140 visible
    (omega (arith, one, short, rest, eight)) (omega arith) (bare_shape app.name tag area ∙ is)
    (app_taken spec rows reports a row (app.name ∷ tag ∷ codes ":" ∷ map signed_decimal area) did area visible (few_bare app.name tag area shown.width) read)

pub app_back : (spec : Parts) (rows : List Row) (reports : List Report) (a : ℕ) (row : Row) (app : AppSpec) (did : Act) (area : List ℤ) → IsSpec spec →
    slice_get spec.apps a ≡ Some app → IsActShown spec app did → IsAreaShown area → AppBack spec rows reports a row app did area
app_back spec rows reports a row app (act.Ran mode proc) area sound there did shown = ran_back spec rows reports a row app mode proc area sound there did shown
app_back spec rows reports a row app (act.Halting k n proc) area sound there did shown = phase_back spec rows reports a row app k n proc Halting area sound there did shown
app_back spec rows reports a row app act.Held area sound there did shown = bare_back spec rows reports a row app (codes "held") act.Held area sound there shown refl refl (omega arith) refl
app_back spec rows reports a row app (act.Preparing k n proc) area sound there did shown = phase_back spec rows reports a row app k n proc Preparing area sound there did shown
app_back spec rows reports a row app (act.Initialising k n proc) area sound there did shown = phase_back spec rows reports a row app k n proc Initialising area sound there did shown
app_back spec rows reports a row app act.Off area sound there did shown = bare_back spec rows reports a row app (codes "off") act.Off area sound there shown refl refl (omega arith) refl
app_back spec rows reports a row app act.Lost area sound there did shown = bare_back spec rows reports a row app (codes "lost") act.Lost area sound there shown refl refl (omega arith) refl
