-- If a lane has the same boxes in two flights, the rows of the flights look alike in the lane.
use Rattle.std.proofs.Common.{◌≡◌, ℕ, zero, suc, ◌+◌, ◌<◌, ◌≤◌, ◌^◌, Bool, true, false, cond, List, [], ◌∷◌, ◌++◌, Option, Some, None, drop, length, refl, sym, ap, arith, append-nil, append_assoc, ◌∙◌}
use Rattle.std.specs.Prelude.{◌&&◌, option_and_then, slice_get, if◌then◌else◌}
use Rattle.std.specs.Option.{option_map_or}
use Rattle.scram_types.specs.Specification.{Each, IsSpec, Parts}
use Rattle.scram_types.specs.declared.rows.Row.{Row}
use Rattle.scram_types.proofs.Booleans.{and_right, by_bool}
use Rattle.flight_facts.specs.Spans.{alike_rows, are_alike, is_new, row_before}
use Rattle.flight_facts.specs.declared.spans.Lane.{Lane}
use Rattle.flight_facts.specs.declared.spans.Lane.TheVariants.{Configuration, Factor as InFactor, Processor as InProcessor, Application as InApplication}
use Rattle.form_base.specs.Texts.{texts_below}
use Rattle.picture_form.specs.Laws.{IsRowDrawn}
use Rattle.picture_form.specs.Lanes.{spans_text}
use Rattle.picture_form.specs.Spans.{begun_text, rect_text, span_text}
use Rattle.picture_form.specs.declared.sheets.Sheet.{Sheet}
use Rattle.picture_form.specs.declared.spans.Strip.{Strip}
use Rattle.picture_form.proofs.ShowsBack.{IsShownIn, is_seen}
use Rattle.picture_form.proofs.SpansBack.{alike_few, alike_swaps, rects_same, rows_alike, seen_alike, span_of, unseen_alike}

-- Lemmas on the boxes of the rows from row `k` on.

-- The text of the span that begins with `row`, which is row `k`, or the empty text if no span begins there. `before`
-- is the preceding row, and `rows` are the rows after `row`.
abbrev pub begun : Parts → Sheet → Strip → ℕ → Option Row → Row → List Row → List ℕ
begun spec sheet strip k before row rows =
    begun_text spec sheet row strip k (if is_new strip.lane before row then Some (alike_rows strip.lane row rows + 1) else None)

-- The texts of the spans of `rows`, the first of which is row `k`. `before` is the row that precedes `rows`, or
-- `None` if there is no such row.
abbrev pub spans_from : Parts → Sheet → Strip → ℕ → Option Row → List Row → List ℕ
spans_from spec sheet strip k before [] = []
spans_from spec sheet strip k before (row ∷ rows) = begun spec sheet strip k before row rows ++ spans_from spec sheet strip (suc k) (Some row) rows

pub dropped : {A : Type 0} (xs : List A) (i : ℕ) (x : A) (rest : List A) → drop i xs ≡ x ∷ rest → (slice_get xs i ≡ Some x) × (drop (suc i) xs ≡ rest)
dropped [] zero x rest e = absurd (let h = e in cc)
dropped [] (suc i) x rest e = absurd (let h = e in cc)
dropped (y ∷ xs) zero x rest e = (let same : y ≡ x = cc in ap (λ z. Some z) same, let tail : xs ≡ rest = cc in tail)
dropped (y ∷ xs) (suc i) x rest e = dropped xs i x rest e

span_here : (spec : Parts) (sheet : Sheet) (strip : Strip) (i : ℕ) (o before : Option Row) (given : Option Row) (row : Row) (rest rows : List Row) → o ≡ Some row → given ≡ before → rest ≡ rows
    → option_map_or (λ (r : Row). begun_text spec sheet r strip i (option_and_then (λ (x : Row). if is_new strip.lane given x then Some (alike_rows strip.lane x rest + 1) else None) o)) o []
    ≡ begun spec sheet strip i before row rows
span_here spec sheet strip i o before given row rest rows e f g = rw (e, f, g) refl

from_here : (spec : Parts) (sheet : Sheet) (all : List Row) (strip : Strip) (rows : List Row) (i : ℕ) (before : Option Row) → drop i all ≡ rows → row_before all i ≡ before
    → texts_below (span_text spec sheet all strip) (i + length rows) ≡ texts_below (span_text spec sheet all strip) i ++ spans_from spec sheet strip i before rows
from_here spec sheet all strip [] i before d b =
    let none : i + 0 ≡ i = omega arith in
    ap (texts_below (span_text spec sheet all strip)) none ∙ sym (append-nil (texts_below (span_text spec sheet all strip) i))
from_here spec sheet all strip (row ∷ rows) i before d b =
    let f = span_text spec sheet all strip in
    let next : i + suc (length rows) ≡ suc i + length rows = omega arith in
    let one : i + 1 ≡ suc i = omega arith in
    let known = dropped all i row rows d in
    let tail : drop (i + 1) all ≡ rows = ap (λ (n : ℕ). drop n all) one ∙ known.1 in
    ap (texts_below f) next
    ∙ from_here spec sheet all strip rows (suc i) (Some row) known.1 known.0
    ∙ append_assoc (texts_below f i) (f i) (spans_from spec sheet strip (suc i) (Some row) rows)
    ∙ ap (λ (text : List ℕ). texts_below f i ++ (text ++ spans_from spec sheet strip (suc i) (Some row) rows))
    (span_here spec sheet strip i (slice_get all i) before (row_before all i) row (drop (i + 1) all) rows known.0 b tail)

pub spans_whole : (spec : Parts) (sheet : Sheet) (rows : List Row) (strip : Strip) → spans_text spec sheet rows strip ≡ spans_from spec sheet strip 0 None rows
spans_whole spec sheet rows strip =
    let none : length rows ≡ 0 + length rows = omega arith in
    ap (texts_below (span_text spec sheet rows strip)) none ∙ from_here spec sheet rows strip rows 0 None refl refl

-- Whether a row begins a span that has a box.
abbrev pub is_drawn : Lane → Option Row → Row → Bool
is_drawn lane before row = is_new lane before row && is_seen lane row

begun_by : (lane : Lane) (new : Bool) (spec : Parts) (sheet : Sheet) (row : Row) (y k n : ℕ) → IsShownIn spec lane
    → begun_text spec sheet row (record { lane = lane; y = y }) k (if new then Some (n + 1) else None) ≡ (if new && is_seen lane row then rect_text spec sheet row (span_of lane y k n) else [])
begun_by Configuration new spec sheet row y k n inside = absurd inside
begun_by (InFactor i) true spec sheet row y k n inside = let one : n + 1 ≡ suc n = omega arith in rw one refl
begun_by (InFactor i) false spec sheet row y k n inside = refl
begun_by (InProcessor p) true spec sheet row y k n inside = let one : n + 1 ≡ suc n = omega arith in rw one refl
begun_by (InProcessor p) false spec sheet row y k n inside = refl
begun_by (InApplication a) true spec sheet row y k n inside = let one : n + 1 ≡ suc n = omega arith in rw one refl
begun_by (InApplication a) false spec sheet row y k n inside = refl

pub begun_is : (spec : Parts) (sheet : Sheet) (strip : Strip) (k : ℕ) (before : Option Row) (row : Row) (rows : List Row) → IsShownIn spec strip.lane
    → begun spec sheet strip k before row rows
    ≡ (if is_drawn strip.lane before row then rect_text spec sheet row (span_of strip.lane strip.y k (alike_rows strip.lane row rows)) else [])
begun_is spec sheet strip k before row rows inside = begun_by strip.lane (is_new strip.lane before row) spec sheet row strip.y k (alike_rows strip.lane row rows) inside

-- The number of `rows` that the box of the preceding row `before` still covers, or 0 if `before` is `None` or has no
-- box.

abbrev pub carry : Lane → Option Row → List Row → ℕ
carry lane None rows = 0
carry lane (Some before) rows = if is_seen lane before then alike_rows lane before rows else 0

none_by : (t s r : Bool) (n : ℕ) → ((if t then false else true) && r) ≡ true → cond s (cond t (n + 1) 0) 0 ≡ 0
none_by true s r n e = absurd (let x = e in cc)
none_by false true r n e = refl
none_by false false r n e = refl

drawn_none : (lane : Lane) (before : Option Row) (row : Row) (rows : List Row) → is_drawn lane before row ≡ true → carry lane before (row ∷ rows) ≡ 0
drawn_none lane None row rows e = refl
drawn_none lane (Some b) row rows e = none_by (are_alike lane b row) (is_seen lane b) (is_seen lane row) (alike_rows lane b rows) e

unseen_by : (t s r : Bool) (n : ℕ) → (t ≡ true → s ≡ r) → r ≡ false → cond s (cond t (n + 1) 0) 0 ≡ 0
unseen_by true true r n same e = absurd (let x = same refl in cc)
unseen_by true false r n same e = refl
unseen_by false true r n same e = refl
unseen_by false false r n same e = refl

unseen_none : (spec : Parts) (lane : Lane) (before : Option Row) (row : Row) (rows : List Row) → IsShownIn spec lane → is_seen lane row ≡ false → carry lane before (row ∷ rows) ≡ 0
unseen_none spec lane None row rows inside e = refl
unseen_none spec lane (Some b) row rows inside e =
    unseen_by (are_alike lane b row) (is_seen lane b) (is_seen lane row) (alike_rows lane b rows) (λ t. seen_alike spec lane b row inside t) e

unseen_next : (lane : Lane) (row : Row) (rows : List Row) → is_seen lane row ≡ false → carry lane (Some row) rows ≡ 0
unseen_next lane row rows e = ap (λ (s : Bool). cond s (alike_rows lane row rows) 0) e

seen_next : (lane : Lane) (row : Row) (rows : List Row) → is_seen lane row ≡ true → carry lane (Some row) rows ≡ alike_rows lane row rows
seen_next lane row rows e = ap (λ (s : Bool). cond s (alike_rows lane row rows) 0) e

carry_nil : (lane : Lane) (before : Option Row) → carry lane before [] ≡ 0
carry_nil lane None = refl
carry_nil lane (Some b) = nil_by (is_seen lane b)
  where
    nil_by : (s : Bool) → ◌≡◌ {A = ℕ} (cond s 0 0) 0
    nil_by true = refl
    nil_by false = refl

-- The row `row` looks like the preceding row in the lane, and the box of the preceding row also covers `row`. The box
-- covers one row more from `row` on than after `row`.
record GoesOn (lane : Lane) (before : Option Row) (row : Row) (rows : List Row) : Type 0 where
  pub earlier : Row
  pub is : before ≡ Some earlier
  pub alike : are_alike lane earlier row ≡ true
  pub carried : carry lane before (row ∷ rows) ≡ suc (carry lane (Some row) rows)

alike_by : (t s : Bool) → ((if t then false else true) && s) ≡ false → s ≡ true → t ≡ true
alike_by true s e f = refl
alike_by false s e f = let x : s ≡ false = e in absurd (cc)

carried_by : (s t r : Bool) (n m : ℕ) → s ≡ true → t ≡ true → r ≡ true → n ≡ m → cond s (cond t (n + 1) 0) 0 ≡ suc (cond r m 0)
carried_by s t r n m e f g same = let one : n + 1 ≡ suc n = omega arith in rw (e, f, g, one, same) refl

goes_on : (spec : Parts) (lane : Lane) (before : Option Row) (row : Row) (rows : List Row) → IsShownIn spec lane → is_drawn lane before row ≡ false → is_seen lane row ≡ true → GoesOn lane before row rows
goes_on spec lane None row rows inside e seen = let x : is_seen lane row ≡ false = e in absurd (cc)
goes_on spec lane (Some b) row rows inside e seen =
    let alike = alike_by (are_alike lane b row) (is_seen lane row) e seen in
    record {
      earlier = b;
      is = refl;
      alike = alike;
      carried = carried_by (is_seen lane b) (are_alike lane b row) (is_seen lane row) (alike_rows lane b rows) (alike_rows lane row rows)
          (seen_alike spec lane b row inside alike ∙ seen) alike seen (rows_alike spec lane b row rows inside alike);
    }

-- Lemmas on two lists of rows that look alike in a lane.

-- None of the rows has a box in the lane.
abbrev pub NoneSeen : Lane → List Row → Type 0
NoneSeen lane [] = Unit {0}
NoneSeen lane (row ∷ rows) = (is_seen lane row ≡ false) × NoneSeen lane rows

-- Each row looks like the row with the same index in the other list. The rows past the end of the other list have no
-- boxes.
abbrev pub SameRows : Lane → List Row → List Row → Type 0
SameRows lane [] others = NoneSeen lane others
SameRows lane (row ∷ rows) [] = NoneSeen lane (row ∷ rows)
SameRows lane (row ∷ rows) (other ∷ others) = (are_alike lane row other ≡ true) × SameRows lane rows others

abbrev pub SameBefore : Lane → Option Row → Option Row → Type 0
SameBefore lane None None = Unit {0}
SameBefore lane None (Some other) = ⊥
SameBefore lane (Some row) None = ⊥
SameBefore lane (Some row) (Some other) = are_alike lane row other ≡ true

module _ (spec : Parts) (strip : Strip) (sound : IsSpec spec) (inside : IsShownIn spec strip.lane) (low : strip.y ≤ 6000) where
  no_box : (t : Bool) (box rest : List ℕ) → t ≡ false → cond t box [] ++ rest ≡ rest
  no_box t box rest e = rw e refl

  a_box : (t : Bool) (box rest : List ℕ) → t ≡ true → cond t box [] ++ rest ≡ box ++ rest
  a_box t box rest e = rw e refl

  without : (sheet : Sheet) (k : ℕ) (before : Option Row) (row : Row) (rows : List Row) → is_drawn strip.lane before row ≡ false
      → spans_from spec sheet strip k before (row ∷ rows) ≡ spans_from spec sheet strip (suc k) (Some row) rows
  without sheet k before row rows e =
      ap (λ (text : List ℕ). text ++ spans_from spec sheet strip (suc k) (Some row) rows) (begun_is spec sheet strip k before row rows inside)
      ∙ no_box (is_drawn strip.lane before row) (rect_text spec sheet row (span_of strip.lane strip.y k (alike_rows strip.lane row rows))) (spans_from spec sheet strip (suc k) (Some row) rows) e

  with_box : (sheet : Sheet) (k : ℕ) (before : Option Row) (row : Row) (rows : List Row) → is_drawn strip.lane before row ≡ true
      → spans_from spec sheet strip k before (row ∷ rows)
      ≡ rect_text spec sheet row (span_of strip.lane strip.y k (alike_rows strip.lane row rows)) ++ spans_from spec sheet strip (suc k) (Some row) rows
  with_box sheet k before row rows e =
      ap (λ (text : List ℕ). text ++ spans_from spec sheet strip (suc k) (Some row) rows) (begun_is spec sheet strip k before row rows inside)
      ∙ a_box (is_drawn strip.lane before row) (rect_text spec sheet row (span_of strip.lane strip.y k (alike_rows strip.lane row rows))) (spans_from spec sheet strip (suc k) (Some row) rows) e

  tail_known : (row : Row) (rows : List Row) → Each (IsRowDrawn spec) (row ∷ rows) → Each (IsRowDrawn spec) rows
  tail_known row rows known i x there = known (suc i) x there

  -- The box of a span that begins in row `k` is not the first box of the spans from a later row `j` on.
  later : (other_sheet sheet : Sheet) (row : Row) (k n : ℕ) (r : List ℕ) (rows : List Row) (j : ℕ) (before : Option Row) → IsRowDrawn spec row → is_seen strip.lane row ≡ true → k + n < 2 ^ 32
      → Each (IsRowDrawn spec) rows → j + length rows < 2 ^ 32 → k < j → rect_text spec other_sheet row (span_of strip.lane strip.y k n) ++ r ≡ spans_from spec sheet strip j before rows → ⊥
  later other_sheet sheet row k n r [] j before known seen few drawn fits less h = let x = h in cc
  later other_sheet sheet row k n r (next ∷ rows) j before known seen few drawn fits less h =
      by_bool (is_drawn strip.lane before next)
      (λ begins. let most = alike_few strip.lane next rows in
      let boxes = rects_same spec strip.lane strip.y other_sheet sheet row next k n j (alike_rows strip.lane next rows) r (spans_from spec sheet strip (suc j) (Some next) rows) sound inside known
      (drawn 0 next refl) seen (and_right (is_new strip.lane before next) (is_seen strip.lane next) begins) low few (omega (arith, fits, most)) (h ∙ with_box sheet j before next rows begins) in
      let first = boxes.ends.first in
      absurd (omega (arith, first, less)))
      (λ goes. later other_sheet sheet row k n r rows (suc j) (Some next) known seen few (tail_known next rows drawn) (omega (arith, fits)) (omega (arith, less)) (h ∙ without sheet j before next rows goes))

  none_seen : (sheet : Sheet) (rows : List Row) (k : ℕ) (before : Option Row) → carry strip.lane before rows ≡ 0 → spans_from spec sheet strip k before rows ≡ [] → NoneSeen strip.lane rows
  none_seen sheet [] k before e h = tt
  none_seen sheet (row ∷ rows) k before e h =
      by_bool (is_drawn strip.lane before row)
      (λ begins. absurd (let x = sym (with_box sheet k before row rows begins) ∙ h in cc))
      (λ goes. by_bool (is_seen strip.lane row)
      (λ seen. absurd (let more = (goes_on spec strip.lane before row rows inside goes seen).carried in omega (arith, e, more)))
      (λ unseen. (unseen, none_seen sheet rows (suc k) (Some row) (unseen_next strip.lane row rows unseen) (sym (without sheet k before row rows goes) ∙ h))))

  clash : (sheet other_sheet : Sheet) (k : ℕ) (before other_before : Option Row) (row other : Row) (rows others : List Row) → Each (IsRowDrawn spec) (row ∷ rows) → Each (IsRowDrawn spec) (other ∷ others)
      → k + length (row ∷ rows) < 2 ^ 32 → k + length (other ∷ others) < 2 ^ 32 → carry strip.lane before (row ∷ rows) ≡ carry strip.lane other_before (other ∷ others)
      → spans_from spec sheet strip k before (row ∷ rows) ≡ spans_from spec other_sheet strip k other_before (other ∷ others)
      → is_drawn strip.lane before row ≡ true → is_drawn strip.lane other_before other ≡ false → ⊥
  clash sheet other_sheet k before other_before row other rows others known drawn few fits e h begins goes =
      let none = drawn_none strip.lane before row rows begins in
      let most = alike_few strip.lane row rows in
      by_bool (is_seen strip.lane other)
      (λ seen. let more = (goes_on spec strip.lane other_before other others inside goes seen).carried in absurd (omega (arith, none, e, more)))
      (λ unseen. later sheet other_sheet row k (alike_rows strip.lane row rows) (spans_from spec sheet strip (suc k) (Some row) rows) others (suc k) (Some other) (known 0 row refl)
      (and_right (is_new strip.lane before row) (is_seen strip.lane row) begins) (omega (arith, few, most)) (tail_known other others drawn) (omega (arith, fits)) (omega arith)
      (sym (with_box sheet k before row rows begins) ∙ h ∙ without other_sheet k other_before other others goes))

  beside : (before other_before : Option Row) (row other earlier other_earlier : Row) → SameBefore strip.lane before other_before → before ≡ Some earlier → other_before ≡ Some other_earlier
      → are_alike strip.lane earlier row ≡ true → are_alike strip.lane other_earlier other ≡ true → are_alike strip.lane row other ≡ true
  beside before other_before row other earlier other_earlier first e f a b =
      let same : SameBefore strip.lane (Some earlier) (Some other_earlier) = rw (e, f) at first in
      sym (alike_swaps spec strip.lane earlier row other inside a) ∙ alike_swaps spec strip.lane earlier other_earlier other inside same ∙ b

  -- Two rows look alike in the lane, and their boxes cover the same number of following rows.
  record BothGoOn (row other : Row) (rows others : List Row) : Type 0 where
    pub alike : are_alike strip.lane row other ≡ true
    pub carried : carry strip.lane (Some row) rows ≡ carry strip.lane (Some other) others

  both_go_on : (before other_before : Option Row) (row other : Row) (rows others : List Row) → SameBefore strip.lane before other_before
      → carry strip.lane before (row ∷ rows) ≡ carry strip.lane other_before (other ∷ others) → is_drawn strip.lane before row ≡ false → is_drawn strip.lane other_before other ≡ false
      → BothGoOn row other rows others
  both_go_on before other_before row other rows others first e a b =
      by_bool (is_seen strip.lane row)
      (λ seen. let mine = goes_on spec strip.lane before row rows inside a seen in by_bool (is_seen strip.lane other)
      (λ too. let theirs = goes_on spec strip.lane other_before other others inside b too in
      let one = mine.carried in
      let two = theirs.carried in
      record { alike = beside before other_before row other mine.earlier theirs.earlier first mine.is theirs.is mine.alike theirs.alike; carried = omega (arith, e, one, two) })
      (λ unseen. let none = unseen_none spec strip.lane other_before other others inside unseen in let one = mine.carried in absurd (omega (arith, e, one, none))))
      (λ unseen. let none = unseen_none spec strip.lane before row rows inside unseen in by_bool (is_seen strip.lane other)
      (λ too. let two = (goes_on spec strip.lane other_before other others inside b too).carried in absurd (omega (arith, e, two, none)))
      (λ neither. record {
        alike = unseen_alike spec strip.lane row other inside unseen neither;
        carried = unseen_next strip.lane row rows unseen ∙ sym (unseen_next strip.lane other others neither);
      }))

  pub tells : (sheet other_sheet : Sheet) (rows others : List Row) (k : ℕ) (before other_before : Option Row) → Each (IsRowDrawn spec) rows → Each (IsRowDrawn spec) others
      → k + length rows < 2 ^ 32 → k + length others < 2 ^ 32 → SameBefore strip.lane before other_before → carry strip.lane before rows ≡ carry strip.lane other_before others
      → spans_from spec sheet strip k before rows ≡ spans_from spec other_sheet strip k other_before others → SameRows strip.lane rows others
  tells sheet other_sheet [] others k before other_before known drawn few fits first e h =
      none_seen other_sheet others k other_before (sym e ∙ carry_nil strip.lane before) (sym h)
  tells sheet other_sheet (row ∷ rows) [] k before other_before known drawn few fits first e h =
      none_seen sheet (row ∷ rows) k before (e ∙ carry_nil strip.lane other_before) h
  tells sheet other_sheet (row ∷ rows) (other ∷ others) k before other_before known drawn few fits first e h =
      by_bool (is_drawn strip.lane before row)
      (λ a. by_bool (is_drawn strip.lane other_before other)
      (λ b. let most = alike_few strip.lane row rows in
      let other_most = alike_few strip.lane other others in
      let seen = and_right (is_new strip.lane before row) (is_seen strip.lane row) a in
      let too = and_right (is_new strip.lane other_before other) (is_seen strip.lane other) b in
      let boxes = rects_same spec strip.lane strip.y sheet other_sheet row other k (alike_rows strip.lane row rows) k (alike_rows strip.lane other others)
      (spans_from spec sheet strip (suc k) (Some row) rows) (spans_from spec other_sheet strip (suc k) (Some other) others) sound inside (known 0 row refl) (drawn 0 other refl) seen too low
      (omega (arith, few, most)) (omega (arith, fits, other_most)) (sym (with_box sheet k before row rows a) ∙ h ∙ with_box other_sheet k other_before other others b) in (
        boxes.ends.same,
        tells sheet other_sheet rows others (suc k) (Some row) (Some other) (tail_known row rows known) (tail_known other others drawn) (omega (arith, few)) (omega (arith, fits))
            boxes.ends.same (seen_next strip.lane row rows seen ∙ boxes.ends.rows ∙ sym (seen_next strip.lane other others too)) boxes.behind,
      ))
      (λ b. absurd (clash sheet other_sheet k before other_before row other rows others known drawn few fits e h a b)))
      (λ a. by_bool (is_drawn strip.lane other_before other)
      (λ b. absurd (clash other_sheet sheet k other_before before other row others rows drawn known fits few (sym e) (sym h) b a))
      (λ b. let on = both_go_on before other_before row other rows others first e a b in (
        on.alike,
        tells sheet other_sheet rows others (suc k) (Some row) (Some other) (tail_known row rows known) (tail_known other others drawn) (omega (arith, few)) (omega (arith, fits))
            on.alike on.carried (sym (without sheet k before row rows a) ∙ h ∙ without other_sheet k other_before other others b),
      )))

  -- If a lane has the same text in two flights, each row of one flight looks like the row with the same index in the
  -- other flight. The rows past the end of the shorter flight have no boxes.
  pub lane_tells : (sheet other_sheet : Sheet) (rows others : List Row) → Each (IsRowDrawn spec) rows → Each (IsRowDrawn spec) others → length rows < 2 ^ 32 → length others < 2 ^ 32
      → spans_text spec sheet rows strip ≡ spans_text spec other_sheet others strip → SameRows strip.lane rows others
  lane_tells sheet other_sheet rows others known drawn few fits h =
      tells sheet other_sheet rows others 0 None None known drawn (omega (arith, few)) (omega (arith, fits)) tt refl
      (sym (spans_whole spec sheet rows strip) ∙ h ∙ spans_whole spec other_sheet others strip)

pub same_at : (lane : Lane) (rows others : List Row) (k : ℕ) (row other : Row) → SameRows lane rows others → slice_get rows k ≡ Some row → slice_get others k ≡ Some other → are_alike lane row other ≡ true
same_at lane [] others k row other same e f = absurd (let x = e in cc)
same_at lane (x ∷ rows) [] k row other same e f = absurd (let y = f in cc)
same_at lane (x ∷ rows) (y ∷ others) zero row other same e f =
    let mine : x ≡ row = cc in
    let theirs : y ≡ other = cc in
    rw (mine, theirs) at same.0
same_at lane (x ∷ rows) (y ∷ others) (suc k) row other same e f = same_at lane rows others k row other same.1 e f

no_rows : (lane : Lane) (rows : List Row) → ((row : Row) → is_seen lane row ≡ true) → NoneSeen lane rows → length rows ≡ 0
no_rows lane [] seen none = refl
no_rows lane (row ∷ rows) seen none = absurd (let x = seen row in let y = none.0 in cc)

pub same_length : (lane : Lane) (rows others : List Row) → ((row : Row) → is_seen lane row ≡ true) → SameRows lane rows others → length rows ≡ length others
same_length lane [] others seen same = sym (no_rows lane others seen same)
same_length lane (row ∷ rows) [] seen same = no_rows lane (row ∷ rows) seen same
same_length lane (row ∷ rows) (other ∷ others) seen same = ap suc (same_length lane rows others seen same.1)
