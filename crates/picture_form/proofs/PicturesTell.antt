-- If two flights have the same picture, they show the same.
use Rattle.std.proofs.Common.{◌≡◌, ℕ, zero, suc, ◌+◌, ◌-◌, ◌<◌, ◌≤◌, ◌^◌, Bool, true, false, cond, List, [], ◌∷◌, ◌++◌, Some, drop, length, decimal, refl, sym, ap, arith, append_assoc, le-ltb, ltb-false, ◌∙◌}
use mathlib.Core.Logic.{inl, inr}
use Rattle.std.specs.Prelude.{codes, nat_lt}
use Rattle.std.proofs.lemmas.List.{append_cancel_left}
use Rattle.scram_types.specs.Specification.{Each, IsSpec, Parts}
use Rattle.scram_types.specs.declared.rows.Report.{Report}
use Rattle.scram_types.specs.declared.rows.Row.{Row}
use Rattle.scram_types.proofs.Naturals.{below_or_at}
use Rattle.flight_facts.specs.declared.extremes.Quantity.TheVariants.{Altitude, Heading}
use Rattle.flight_facts.specs.declared.spans.Lane.TheVariants.{Factor as InFactor, Processor as InProcessor, Application as InApplication}
use Rattle.form_base.specs.Texts.{texts_below}
use Rattle.picture_form.specs.Lanes.{lanes_text, spans_text, strip_of}
use Rattle.picture_form.specs.Laws.{DrawnAlike, EqualPicturesShowTheSame, IsDrawn, IsRowDrawn, drawn_in, drawn_titles}
use Rattle.picture_form.specs.Picture.{altitude_text, conf_strip, foot_text, grid_text, heading_text, legend_text, open_line, picture_text}
use Rattle.picture_form.specs.Reconfigurations.{reconfiguration_boxes}
use Rattle.picture_form.specs.Sheets.{curves_y, lane_of, lane_y, lanes_of, room_above, sheet_of}
use Rattle.picture_form.specs.Spans.{lane_name}
use Rattle.picture_form.specs.Styles.{part_text}
use Rattle.picture_form.specs.declared.sheets.Sheet.{Sheet}
use Rattle.picture_form.specs.declared.styles.Part.TheVariants.{Style, Names}
use Rattle.picture_form.proofs.Cuts.{Start, a_path, cut, left_after, no_name, skip, walk, walk_both}
use Rattle.picture_form.proofs.ShowsBack.{IsShownIn, is_seen}
use Rattle.picture_form.proofs.LanesTell.{SameRows, lane_tells, same_at, same_length}
use Rattle.picture_form.proofs.CurvesTell.{SameCurves, quantity_same}
use Rattle.picture_form.proofs.ReportsTell.{boxes_begin, boxes_of, boxes_same, boxes_whole, reports_tell}
use Rattle.picture_form.proofs.Sections.{IsSmall, grid_walk, lane_walk, open_ends, reports_walk, stable_spans_walk}

-- Concatenating the parts of a text from the right instead of from the left results in the same text. `n` is the text
-- of the first two lanes' names without its first two bytes.
ordered : (n u m z : List ℕ) → ((((60 ∷ 116 ∷ n) ++ u) ++ m) ++ z) ≡ 60 ∷ 116 ∷ (n ++ ((u ++ m) ++ z))
ordered n u m z =
    append_assoc ((60 ∷ 116 ∷ n) ++ u) m z ∙ append_assoc (60 ∷ 116 ∷ n) u (m ++ z) ∙ ap (λ (rest : List ℕ). 60 ∷ 116 ∷ (n ++ rest)) (sym (append_assoc u m z))

pub record SameFronts (u m w q z y : List ℕ) : Type 0 where
  pub front : u ++ m ≡ w ++ q
  pub rest : z ≡ y

fronts_same : (style n a b g h u m w q z y r s : List ℕ) → left_after 10 (Some 1) a ≡ Some 0 → left_after 10 (Some 1) b ≡ Some 0 → walk no_name Start g ≡ Start → walk no_name Start h ≡ Start
    → walk no_name Start (u ++ m) ≡ Start → walk no_name Start (w ++ q) ≡ Start → z ≡ 60 ∷ 116 ∷ r → y ≡ 60 ∷ 116 ∷ s
    → (a ++ style) ++ (g ++ ((((60 ∷ 116 ∷ n) ++ u) ++ m) ++ z)) ≡ (b ++ style) ++ (h ++ ((((60 ∷ 116 ∷ n) ++ w) ++ q) ++ y)) → SameFronts u m w q z y
fronts_same style n a b g h u m w q z y r s ends other_ends grid other_grid front other_front begins other_begins e =
    let apart = sym (append_assoc a style (g ++ ((((60 ∷ 116 ∷ n) ++ u) ++ m) ++ z))) ∙ e ∙ append_assoc b style (h ++ ((((60 ∷ 116 ∷ n) ++ w) ++ q) ++ y)) in
    let behind = append_cancel_left style _ _ (cut 10 (Some 1) a b _ _ ends other_ends apart).1 in
    let lines = skip no_name 116 116 Start g h (n ++ ((u ++ m) ++ z)) (n ++ ((w ++ q) ++ y)) refl refl grid other_grid
    (ap (λ (rest : List ℕ). g ++ rest) (sym (ordered n u m z)) ∙ behind ∙ ap (λ (rest : List ℕ). h ++ rest) (ordered n w q y)) in
    let top : (u ++ m) ++ z ≡ (w ++ q) ++ y = append_cancel_left (116 ∷ n) _ _ lines.1 in
    let both = skip no_name 116 116 Start (u ++ m) (w ++ q) r s refl refl front other_front
    (ap (λ (rest : List ℕ). (u ++ m) ++ rest) (sym begins) ∙ top ∙ ap (λ (rest : List ℕ). (w ++ q) ++ rest) other_begins) in
    record { front = both.0; rest = begins ∙ ap (λ (rest : List ℕ). 60 ∷ rest) both.1 ∙ sym other_begins }

-- Lemmas that two pictures whose lanes have the same names and the same text have the same text in each lane.

-- The text of lane `k`: its name, and the text after the name.
abbrev lanes_with : (ℕ → List ℕ) → (ℕ → List ℕ) → ℕ → List ℕ
lanes_with name body k = (60 ∷ 116 ∷ name k) ++ body k

lanes_begin : (name body : ℕ → List ℕ) (n : ℕ) (r : List ℕ) → (rest : List ℕ) × (texts_below (lanes_with name body) n ++ 60 ∷ 116 ∷ r ≡ 60 ∷ 116 ∷ rest)
lanes_begin name body zero r = (r, refl)
lanes_begin name body (suc n) r =
    let more = lanes_begin name body n ((name n ++ body n) ++ 60 ∷ 116 ∷ r) in
    (more.0, append_assoc (texts_below (lanes_with name body) n) (lanes_with name body n) (60 ∷ 116 ∷ r) ∙ more.1)

lanes_same : (name body other : ℕ → List ℕ) (n : ℕ) (r s : List ℕ) → ((k : ℕ) → k < n → walk no_name Start (body k) ≡ Start) → ((k : ℕ) → k < n → walk no_name Start (other k) ≡ Start)
    → texts_below (lanes_with name body) n ++ 60 ∷ 116 ∷ r ≡ texts_below (lanes_with name other) n ++ 60 ∷ 116 ∷ s → ((k : ℕ) → k < n → body k ≡ other k) × (r ≡ s)
lanes_same name body other zero r s mine theirs e = (λ k less. absurd (omega (arith, less)), let x : r ≡ s = cc in x)
lanes_same name body other (suc n) r s mine theirs e =
    let apart = sym (append_assoc (texts_below (lanes_with name body) n) (lanes_with name body n) (60 ∷ 116 ∷ r)) ∙ e
    ∙ append_assoc (texts_below (lanes_with name other) n) (lanes_with name other n) (60 ∷ 116 ∷ s) in
    let before = lanes_same name body other n ((name n ++ body n) ++ 60 ∷ 116 ∷ r) ((name n ++ other n) ++ 60 ∷ 116 ∷ s) (λ k less. mine k (omega (arith, less))) (λ k less. theirs k (omega (arith, less))) apart in
    let named = sym (append_assoc (name n) (body n) (60 ∷ 116 ∷ r)) ∙ before.1 ∙ append_assoc (name n) (other n) (60 ∷ 116 ∷ s) in
    let last = skip no_name 116 116 Start (body n) (other n) r s refl refl (mine n (omega arith)) (theirs n (omega arith)) (append_cancel_left (name n) _ _ named) in (
      λ k less. elim (below_or_at k n less) [
        | inl lower ↦ before.0 k lower
        | inr here ↦ rw here last.0
      ],
      append_cancel_left (116 ∷ []) r s last.1,
    )

-- Lemmas that the specification has the items that the lanes of its sheet show, and that there are at most 22 lanes.

inside_by : (a b : Bool) (spec : Parts) (n f p : ℕ) → nat_lt n f ≡ a → nat_lt n (f + p) ≡ b → n < f + p + length spec.apps
    → IsShownIn spec (cond a (InFactor n) (cond b (InProcessor (n - f)) (InApplication (n - (f + p)))))
inside_by true b spec n f p e g less = tt
inside_by false true spec n f p e g less = tt
inside_by false false spec n f p e g less = let most = ltb-false n (f + p) g in omega (arith, most, less)

lane_inside : (spec : Parts) (rows : List Row) (n : ℕ) → n < lanes_of (sheet_of spec rows) → IsShownIn spec (lane_of (sheet_of spec rows) n)
lane_inside spec rows n less =
    inside_by (nat_lt n (length spec.factors)) (nat_lt n (length spec.factors + length spec.procs)) spec n (length spec.factors) (length spec.procs) refl refl less

room_by : (a b : Bool) → cond a 0 (cond b 8 16) ≤ 16
room_by true b = omega arith
room_by false true = omega arith
room_by false false = omega arith

lanes_few : (spec : Parts) (rows : List Row) → IsSpec spec → lanes_of (sheet_of spec rows) ≤ 22
lanes_few spec rows sound =
    let factors = sound.factors_count in
    let procs = sound.procs_count.few in
    let apps = sound.apps_count.few in
    omega (arith, factors, procs, apps)

lane_low : (spec : Parts) (rows : List Row) (n : ℕ) → IsSpec spec → n < lanes_of (sheet_of spec rows) → lane_y (sheet_of spec rows) n ≤ 6000
lane_low spec rows n sound less =
    let few = lanes_few spec rows sound in
    let room : room_above (sheet_of spec rows) n ≤ 16 = room_by (nat_lt n (length spec.factors)) (nat_lt n (length spec.factors + length spec.procs)) in
    omega (arith, few, less, room)

seen_by : (a b : Bool) (n f m : ℕ) (row : Row) → a ≡ false → b ≡ false → is_seen (cond a (InFactor n) (cond b (InProcessor f) (InApplication m))) row ≡ true
seen_by a b n f m row e g = rw (e, g) refl

-- Every row has a box in the lane of the first application.
first_app : (spec : Parts) (rows : List Row) (row : Row) → is_seen (lane_of (sheet_of spec rows) (length spec.factors + length spec.procs)) row ≡ true
first_app spec rows row =
    let at = length spec.factors + length spec.procs in
    seen_by (nat_lt at (length spec.factors)) (nat_lt at at) at (at - length spec.factors) (at - at) row (le-ltb at (length spec.factors) (omega arith)) (le-ltb at at (omega arith))

-- The text of the name of lane `n` without its first two bytes.
abbrev name_rest : Parts → Sheet → ℕ → List ℕ
name_rest spec sheet n =
    (codes "ext class=\"name\" x=\"128\" y=\"" ++ decimal (lane_y sheet n + 12) ++ codes "\">" ++ lane_name spec (lane_of sheet n) ++ codes "</text>") ++ codes "\n"

small : (spec : Parts) (rows : List Row) → IsSpec spec → length rows < 2 ^ 32 → IsSmall (sheet_of spec rows)
small spec rows sound few = record { rows = few; lanes = lanes_few spec rows sound }

-- The text of the boxes in lane `n` for a flight.
abbrev boxes : Parts → List Row → ℕ → List ℕ
boxes spec rows n = spans_text spec (sheet_of spec rows) rows (strip_of (sheet_of spec rows) n)

-- The text of the reconfigurations of a flight.
abbrev reports_text : Parts → Sheet → List Report → List ℕ
reports_text spec sheet reports = texts_below (reconfiguration_boxes spec sheet reports) (length reports)

boxes_lines : (spec : Parts) (rows : List Row) (reports : List Report) (n : ℕ) → IsSpec spec → IsDrawn spec rows reports → n < lanes_of (sheet_of spec rows) → walk no_name Start (boxes spec rows n) ≡ Start
boxes_lines spec rows reports n sound drawn less =
    lane_walk spec (sheet_of spec rows) rows (strip_of (sheet_of spec rows) n) sound (lane_inside spec rows n less) (lane_low spec rows n sound less) drawn.rows_drawn drawn.few

-- The pictures of two flights have the same spans of stable configurations and reconfigurations, the same boxes in
-- each other lane, and the same text below the lanes.
record SameParts (spec : Parts) (rows others : List Row) (reports reported : List Report) : Type 0 where
  pub top : spans_text spec (sheet_of spec rows) rows conf_strip ++ reports_text spec (sheet_of spec rows) reports
      ≡ spans_text spec (sheet_of spec others) others conf_strip ++ reports_text spec (sheet_of spec others) reported
  pub lanes : (n : ℕ) → n < lanes_of (sheet_of spec rows) → boxes spec rows n ≡ boxes spec others n
  pub foot : drop 2 (foot_text (sheet_of spec rows) rows) ≡ drop 2 (foot_text (sheet_of spec others) others)

module _ (spec : Parts) (rows others : List Row) (reports reported : List Report) (sound : IsSpec spec) (mine : IsDrawn spec rows reports) (theirs : IsDrawn spec others reported) where
  abbrev sheet : Sheet
  sheet = sheet_of spec rows

  abbrev other_sheet : Sheet
  other_sheet = sheet_of spec others

  parts_same : picture_text spec rows reports ≡ picture_text spec others reported → SameParts spec rows others reports reported
  parts_same e =
      let begins = lanes_begin (name_rest spec sheet) (boxes spec rows) (lanes_of sheet) (drop 2 (foot_text sheet rows)) in
      let other_begins = lanes_begin (name_rest spec other_sheet) (boxes spec others) (lanes_of other_sheet) (drop 2 (foot_text other_sheet others)) in
      let fronts = fronts_same (part_text Style) (drop 2 (part_text Names)) (open_line sheet) (open_line other_sheet)
      (grid_text sheet reports) (grid_text other_sheet reported)
      (spans_text spec sheet rows conf_strip) (reports_text spec sheet reports) (spans_text spec other_sheet others conf_strip) (reports_text spec other_sheet reported)
      (lanes_text spec sheet rows ++ foot_text sheet rows) (lanes_text spec other_sheet others ++ foot_text other_sheet others) begins.0 other_begins.0
      (open_ends sheet (small spec rows sound mine.few)) (open_ends other_sheet (small spec others sound theirs.few))
      (grid_walk sheet reports (small spec rows sound mine.few) mine.reports_drawn) (grid_walk other_sheet reported (small spec others sound theirs.few) theirs.reports_drawn)
      (walk_both no_name (spans_text spec sheet rows conf_strip) (reports_text spec sheet reports) (stable_spans_walk no_name spec sheet rows refl sound mine.few) (reports_walk spec sheet reports sound (small spec rows sound mine.few) mine.reports_drawn))
      (walk_both no_name (spans_text spec other_sheet others conf_strip) (reports_text spec other_sheet reported) (stable_spans_walk no_name spec other_sheet others refl sound theirs.few) (reports_walk spec other_sheet reported sound (small spec others sound theirs.few) theirs.reports_drawn))
      begins.1 other_begins.1 e in
      let lanes = lanes_same (name_rest spec sheet) (boxes spec rows) (boxes spec others) (lanes_of sheet) (drop 2 (foot_text sheet rows)) (drop 2 (foot_text other_sheet others))
      (λ n less. boxes_lines spec rows reports n sound mine less) (λ n less. boxes_lines spec others reported n sound theirs less) fronts.rest in
      record { top = fronts.front; lanes = lanes.0; foot = lanes.1 }

  reports_same : spans_text spec (sheet_of spec rows) rows conf_strip ++ reports_text spec (sheet_of spec rows) reports
      ≡ spans_text spec (sheet_of spec others) others conf_strip ++ reports_text spec (sheet_of spec others) reported
      → drawn_titles spec (length rows) reports ≡ drawn_titles spec (length others) reported
  reports_same e =
      let lines = spans_text spec sheet rows conf_strip in
      let other_lines = spans_text spec other_sheet others conf_strip in
      let whole = ap (λ (text : List ℕ). lines ++ text) (sym (boxes_whole spec sheet reports)) ∙ e ∙ ap (λ (text : List ℕ). other_lines ++ text) (boxes_whole spec other_sheet reported) in
      reports_tell spec sheet other_sheet reports reported sound mine.few theirs.few mine.reports_drawn theirs.reports_drawn
      (boxes_same lines (boxes_of spec sheet (drawn_in sheet.rows reports)) other_lines (boxes_of spec other_sheet (drawn_in other_sheet.rows reported))
      (stable_spans_walk a_path spec sheet rows refl sound mine.few) (stable_spans_walk a_path spec other_sheet others refl sound theirs.few)
      (boxes_begin spec sheet (drawn_in sheet.rows reports)) (boxes_begin spec other_sheet (drawn_in other_sheet.rows reported)) whole)

-- If two flights have the same number of rows and the same text below the lanes, the text is also the same if both
-- flights are drawn on the sheet of the first flight.
foot_on : (spec : Parts) (rows others : List Row) → length rows ≡ length others → drop 2 (foot_text (sheet_of spec rows) rows) ≡ drop 2 (foot_text (sheet_of spec others) others)
    → foot_text (sheet_of spec rows) rows ≡ foot_text (sheet_of spec rows) others
foot_on spec rows others same e =
    ap (λ (rest : List ℕ). 60 ∷ 116 ∷ rest) e
    ∙ ap (λ (frames : ℕ). foot_text (record { rows = frames; factors = length spec.factors; procs = length spec.procs; apps = length spec.apps }) others) (sym same)

-- The text below the curve of the altitude: the curve of the heading, and the legend.
abbrev below_altitude : Sheet → List Row → List ℕ
below_altitude sheet rows = heading_text sheet rows ++ legend_text sheet

module _ (spec : Parts) (rows others : List Row) (known : Each (IsRowDrawn spec) rows) (drawn : Each (IsRowDrawn spec) others) (few : length rows < 2 ^ 32) (same : length rows ≡ length others) where
  altitude_same : foot_text (sheet_of spec rows) rows ≡ foot_text (sheet_of spec rows) others
      → SameCurves Altitude rows others (below_altitude (sheet_of spec rows) rows) (below_altitude (sheet_of spec rows) others)
  altitude_same e =
      let sheet = sheet_of spec rows in
      quantity_same sheet Altitude (curves_y sheet) rows others (below_altitude sheet rows) (below_altitude sheet others) few same (λ i x there. (known i x there).altitude) (λ i x there. (drawn i x there).altitude)
      (sym (append_assoc (altitude_text sheet rows) (heading_text sheet rows) (legend_text sheet)) ∙ e ∙ append_assoc (altitude_text sheet others) (heading_text sheet others) (legend_text sheet))

  heading_same : below_altitude (sheet_of spec rows) rows ≡ below_altitude (sheet_of spec rows) others → DrawnAlike Heading rows others
  heading_same e =
      let sheet = sheet_of spec rows in
      (quantity_same sheet Heading (curves_y sheet + 64) rows others (legend_text sheet) (legend_text sheet) few same (λ i x there. (known i x there).heading) (λ i x there. (drawn i x there).heading) e).alike

pub equal_pictures_show_the_same : EqualPicturesShowTheSame
equal_pictures_show_the_same spec rows others reports reported sound mine theirs e =
    let sheet = sheet_of spec rows in
    let parts = parts_same spec rows others reports reported sound mine theirs e in
    let tells : (n : ℕ) → n < lanes_of sheet → SameRows (lane_of sheet n) rows others
    = λ n less. lane_tells spec (strip_of sheet n) sound (lane_inside spec rows n less) (lane_low spec rows n sound less) sheet (sheet_of spec others) rows others
    mine.rows_drawn theirs.rows_drawn mine.few theirs.few (parts.lanes n less) in
    let some = sound.apps_count.enough in
    let at = length spec.factors + length spec.procs in
    let frames = same_length (lane_of sheet at) rows others (λ row. first_app spec rows row) (tells at (omega (arith, some))) in
    let altitude = altitude_same spec rows others mine.rows_drawn theirs.rows_drawn mine.few frames (foot_on spec rows others frames parts.foot) in
    record {
      frames = frames;
      alike = λ n k row other less here there. same_at (lane_of sheet n) rows others k row other (tells n less) here there;
      reconfigurations = reports_same spec rows others reports reported sound mine theirs parts.top;
      altitude = altitude.alike;
      heading = heading_same spec rows others mine.rows_drawn theirs.rows_drawn mine.few frames altitude.behind;
    }
