-- What rows show in a lane can be recovered from the boxes of the lane.
use Rattle.std.proofs.Common.{◌≡◌, ℕ, suc, ◌+◌, ◌*◌, ◌<◌, ◌≤◌, ◌^◌, Bool, true, false, cond, List, [], ◌∷◌, ◌++◌, Option, Some, None, length, refl, sym, ap, arith, mul-le-mul, ◌∙◌}
use Rattle.std.specs.Prelude.{◌==◌, ◌&&◌, nat_lt, slice_index, if◌then◌else◌}
use Rattle.std.proofs.lemmas.Bool.{eqb-true}
use Rattle.scram_types.specs.Bits.{has_bit}
use Rattle.scram_types.specs.Specification.{IsSpec, Parts}
use Rattle.scram_types.specs.declared.rows.Row.{Row}
use Rattle.scram_types.specs.declared.ids.ProcId.{ProcId}
use Rattle.scram_types.specs.declared.orders.Act.{Act}
use Rattle.scram_types.proofs.Booleans.{and_left, and_right}
use Rattle.flight_facts.specs.Acts.{act_of, act_word, mode_of_act, proc_of_act, word_number}
use Rattle.flight_facts.specs.Spans.{alike_rows, are_alike, same_bit, same_doing, same_proc}
use Rattle.flight_facts.specs.declared.spans.Lane.{Lane}
use Rattle.flight_facts.specs.declared.spans.Lane.TheVariants.{Configuration, Factor as InFactor, Processor as InProcessor, Application as InApplication}
use Rattle.picture_form.specs.Boxes.{box_text, frames_text}
use Rattle.picture_form.specs.Laws.{IsRowDrawn}
use Rattle.picture_form.specs.Sheets.{scale_of, width_of, x_of}
use Rattle.picture_form.specs.Spans.{class_text, label_of, lane_name, rect_text, span_label, words_text}
use Rattle.picture_form.specs.declared.sheets.Sheet.{Sheet}
use Rattle.picture_form.specs.declared.spans.Span.{Span}
use Rattle.picture_form.proofs.Cuts.{cut, left_after}
use Rattle.picture_form.proofs.RectsBack.{box_plain, box_quotes, frames_after, frames_plain, frames_tail, label_plain, rect_ends, rect_grouped, rect_of, rect_parts}
use Rattle.picture_form.proofs.ShowsBack.{IsShownIn, SameEnds, class_over, is_seen, label_words_plain, lane_name_over, plain, shown_same, words_plain}

-- Lemmas that positions and widths in a picture are below `2 ^ 64`.

scale_by : (a b c : Bool) → cond a 1 (cond b 2 (cond c 4 8)) ≤ 8
scale_by true b c = omega arith
scale_by false true c = omega arith
scale_by false false true = omega arith
scale_by false false false = omega arith

pub scale_most : (rows : ℕ) → scale_of rows ≤ 8
scale_most rows = scale_by (nat_lt 8000 rows) (nat_lt 4000 rows) (nat_lt 2000 rows)

pub width_small : (sheet : Sheet) (rows : ℕ) → rows ≤ 2 ^ 33 → width_of sheet rows ≤ 2 ^ 36
width_small sheet rows few = let m : scale_of sheet.rows * rows ≤ 8 * 2 ^ 33 = mul-le-mul (scale_most sheet.rows) few in omega (arith, m)

pub x_small : (sheet : Sheet) (k : ℕ) → k ≤ 2 ^ 33 → x_of sheet k ≤ 2 ^ 37
x_small sheet k few = let m : scale_of sheet.rows * k ≤ 8 * 2 ^ 33 = mul-le-mul (scale_most sheet.rows) few in omega (arith, m)

-- Lemmas on one box.

-- The span of `n + 1` rows from row `k` on.
abbrev pub span_of : Lane → ℕ → ℕ → ℕ → Span
span_of lane y k n = record { lane = lane; y = y; first = k; rows = suc n }

abbrev box_of : Sheet → Span → List ℕ
box_of sheet span = box_text (x_of sheet span.first) span.y (width_of sheet span.rows)

rect_is : (spec : Parts) (sheet : Sheet) (row : Row) (lane : Lane) (y k n : ℕ) → rect_text spec sheet row (span_of lane y k n)
    ≡ rect_of (class_text lane row) (box_of sheet (span_of lane y k n)) (lane_name spec lane) (words_text spec lane row) (32 ∷ frames_tail k n) (span_label sheet (span_of lane y k n) (label_of spec lane row))
rect_is spec sheet row lane y k n =
    rect_grouped (class_text lane row) (box_of sheet (span_of lane y k n)) (lane_name spec lane) (words_text spec lane row) (frames_text k (suc n)) (span_label sheet (span_of lane y k n) (label_of spec lane row))
    ∙ ap (λ (frames : List ℕ). rect_of (class_text lane row) (box_of sheet (span_of lane y k n)) (lane_name spec lane) (words_text spec lane row) frames
    (span_label sheet (span_of lane y k n) (label_of spec lane row))) (frames_after k n)

pub rect_line : (spec : Parts) (sheet : Sheet) (row : Row) (lane : Lane) (y k n : ℕ) → IsSpec spec → IsShownIn spec lane → IsRowDrawn spec row → y ≤ 6000 → k + n < 2 ^ 32
    → left_after 10 (Some 1) (rect_text spec sheet row (span_of lane y k n)) ≡ Some 0
rect_line spec sheet row lane y k n sound inside known low few =
    let x = x_small sheet k (omega (arith, few)) in
    let width = width_small sheet (suc n) (omega (arith, few)) in
    ap (left_after 10 (Some 1)) (rect_is spec sheet row lane y k n)
    ∙ rect_ends (class_text lane row) (box_of sheet (span_of lane y k n)) (lane_name spec lane) (words_text spec lane row) (32 ∷ frames_tail k n)
    (span_label sheet (span_of lane y k n) (label_of spec lane row)) (plain (class_text lane row) (class_over spec lane row known)) (box_plain (x_of sheet k) y (width_of sheet (suc n)) (omega (arith, x)) (omega (arith, low)) (omega (arith, width)))
    (plain (lane_name spec lane) (lane_name_over spec lane sound)) (words_plain spec lane row sound inside known) (frames_plain k n (omega (arith, few)))
    (label_plain (x_of sheet k) y (width_of sheet (suc n)) (label_of spec lane row) (omega (arith, x)) (omega (arith, low)) (label_words_plain spec lane row sound inside known))

pub record SameBoxes (k n j m : ℕ) (alike : Bool) (rest other_rest : List ℕ) : Type 0 where
  pub ends : SameEnds k n j m alike
  pub behind : rest ≡ other_rest

-- If two equal texts begin with boxes of a lane, the first rows of the boxes look alike, and the boxes begin in the
-- same row and have the same number of rows. The texts after the boxes are equal.
pub rects_same : (spec : Parts) (lane : Lane) (y : ℕ) (sheet other_sheet : Sheet) (row other : Row) (k n j m : ℕ) (r s : List ℕ) → IsSpec spec → IsShownIn spec lane → IsRowDrawn spec row
    → IsRowDrawn spec other → is_seen lane row ≡ true → is_seen lane other ≡ true → y ≤ 6000 → k + n < 2 ^ 32 → j + m < 2 ^ 32
    → rect_text spec sheet row (span_of lane y k n) ++ r ≡ rect_text spec other_sheet other (span_of lane y j m) ++ s → SameBoxes k n j m (are_alike lane row other) r s
rects_same spec lane y sheet other_sheet row other k n j m r s sound inside known drawn one two low few fits h =
    let x = x_small sheet k (omega (arith, few)) in
    let width = width_small sheet (suc n) (omega (arith, few)) in
    let other_x = x_small other_sheet j (omega (arith, fits)) in
    let other_width = width_small other_sheet (suc m) (omega (arith, fits)) in
    let lines = cut 10 (Some 1) (rect_text spec sheet row (span_of lane y k n)) (rect_text spec other_sheet other (span_of lane y j m)) r s
    (rect_line spec sheet row lane y k n sound inside known low few) (rect_line spec other_sheet other lane y j m sound inside drawn low fits) h in
    let parts = rect_parts (class_text lane row) (box_of sheet (span_of lane y k n)) (lane_name spec lane) (words_text spec lane row) (32 ∷ frames_tail k n)
    (span_label sheet (span_of lane y k n) (label_of spec lane row)) (class_text lane other) (box_of other_sheet (span_of lane y j m)) (words_text spec lane other) (32 ∷ frames_tail j m)
    (span_label other_sheet (span_of lane y j m) (label_of spec lane other)) (class_over spec lane row known) (class_over spec lane other drawn)
    (box_quotes (x_of sheet k) y (width_of sheet (suc n)) (omega (arith, x)) (omega (arith, low)) (omega (arith, width)))
    (box_quotes (x_of other_sheet j) y (width_of other_sheet (suc m)) (omega (arith, other_x)) (omega (arith, low)) (omega (arith, other_width)))
    (sym (rect_is spec sheet row lane y k n) ∙ lines.0 ∙ rect_is spec other_sheet other lane y j m) in
    record {
      ends = shown_same lane spec row other k n j m _ _ sound inside known drawn one two (omega (arith, few)) (omega (arith, fits)) parts.0 parts.1;
      behind = lines.1;
    }

-- Lemmas on rows that look alike in a lane.

proc_is : (p q : Option ProcId) → same_proc p q ≡ true → p ≡ q
proc_is None None e = refl
proc_is None (Some q) e = absurd (let x = e in cc)
proc_is (Some p) None e = absurd (let x = e in cc)
proc_is (Some p) (Some q) e = let same : p.0 ≡ q.0 = eqb-true p.0 q.0 e in ap (λ (n : ℕ). Some (record { 0 = n })) same

bit_is : (p set other : ℕ) → same_bit p set other ≡ true → has_bit set p ≡ has_bit other p
bit_is p set other e = by_bits (has_bit set p) (has_bit other p) e
  where
    by_bits : (a b : Bool) → (if a then b else (if b then false else true)) ≡ true → a ≡ b
    by_bits true b h = sym h
    by_bits false true h = absurd (let x = h in cc)
    by_bits false false h = refl

doing_swaps : (act other third : Act) → same_doing act other ≡ true → same_doing act third ≡ same_doing other third
doing_swaps act other third e =
    let front = and_left ((word_number (act_word act) == word_number (act_word other)) && (mode_of_act act == mode_of_act other)) (same_proc (proc_of_act act) (proc_of_act other)) e in
    let words = eqb-true (word_number (act_word act)) (word_number (act_word other)) (and_left (word_number (act_word act) == word_number (act_word other)) (mode_of_act act == mode_of_act other) front) in
    let modes = eqb-true (mode_of_act act) (mode_of_act other) (and_right (word_number (act_word act) == word_number (act_word other)) (mode_of_act act == mode_of_act other) front) in
    let procs = proc_is (proc_of_act act) (proc_of_act other)
    (and_right ((word_number (act_word act) == word_number (act_word other)) && (mode_of_act act == mode_of_act other)) (same_proc (proc_of_act act) (proc_of_act other)) e) in
    ap (λ (n : ℕ). (n == word_number (act_word third)) && (mode_of_act act == mode_of_act third) && same_proc (proc_of_act act) (proc_of_act third)) words
    ∙ ap (λ (n : ℕ). (word_number (act_word other) == word_number (act_word third)) && (n == mode_of_act third) && same_proc (proc_of_act act) (proc_of_act third)) modes
    ∙ ap (λ (p : Option ProcId). (word_number (act_word other) == word_number (act_word third)) && (mode_of_act other == mode_of_act third) && same_proc p (proc_of_act third)) procs

-- If two rows look alike in a lane, a third row looks like both of them or like neither.
pub alike_swaps : (spec : Parts) (lane : Lane) (row other third : Row) → IsShownIn spec lane → are_alike lane row other ≡ true → are_alike lane row third ≡ are_alike lane other third
alike_swaps spec Configuration row other third inside e = absurd inside
alike_swaps spec (InFactor i) row other third inside e =
    ap (λ (v : ℕ). v == slice_index third.env.factors i) (eqb-true (slice_index row.env.factors i) (slice_index other.env.factors i) e)
alike_swaps spec (InProcessor p) row other third inside e =
    ap (λ (b : Bool). if b then has_bit third.env.up p else (if has_bit third.env.up p then false else true)) (bit_is p row.env.up other.env.up e)
alike_swaps spec (InApplication a) row other third inside e = doing_swaps (act_of row a) (act_of other a) (act_of third a) e

pub seen_alike : (spec : Parts) (lane : Lane) (row other : Row) → IsShownIn spec lane → are_alike lane row other ≡ true → is_seen lane row ≡ is_seen lane other
seen_alike spec Configuration row other inside e = absurd inside
seen_alike spec (InFactor i) row other inside e = refl
seen_alike spec (InProcessor p) row other inside e = bit_is p row.env.up other.env.up e
seen_alike spec (InApplication a) row other inside e = refl

unseen_bits : (p set other : ℕ) → has_bit set p ≡ false → has_bit other p ≡ false → same_bit p set other ≡ true
unseen_bits p set other e f = rw (e, f) refl

pub unseen_alike : (spec : Parts) (lane : Lane) (row other : Row) → IsShownIn spec lane → is_seen lane row ≡ false → is_seen lane other ≡ false → are_alike lane row other ≡ true
unseen_alike spec Configuration row other inside e f = absurd inside
unseen_alike spec (InFactor i) row other inside e f = absurd (let x = e in cc)
unseen_alike spec (InProcessor p) row other inside e f = unseen_bits p row.env.up other.env.up e f
unseen_alike spec (InApplication a) row other inside e f = absurd (let x = e in cc)

rows_by : (b c : Bool) (n m : ℕ) → b ≡ c → n ≡ m → cond b (n + 1) 0 ≡ cond c (m + 1) 0
rows_by b c n m e f = rw (e, f) refl

pub rows_alike : (spec : Parts) (lane : Lane) (row other : Row) (rows : List Row) → IsShownIn spec lane → are_alike lane row other ≡ true → alike_rows lane row rows ≡ alike_rows lane other rows
rows_alike spec lane row other [] inside e = refl
rows_alike spec lane row other (next ∷ rows) inside e =
    rows_by (are_alike lane row next) (are_alike lane other next) (alike_rows lane row rows) (alike_rows lane other rows) (alike_swaps spec lane row other next inside e) (rows_alike spec lane row other rows inside e)

few_by : (b : Bool) (n m : ℕ) → n ≤ m → cond b (n + 1) 0 ≤ suc m
few_by true n m h = omega (arith, h)
few_by false n m h = omega arith

pub alike_few : (lane : Lane) (row : Row) (rows : List Row) → alike_rows lane row rows ≤ length rows
alike_few lane row [] = omega arith
alike_few lane row (next ∷ rows) = few_by (are_alike lane row next) (alike_rows lane row rows) (length rows) (alike_few lane row rows)
