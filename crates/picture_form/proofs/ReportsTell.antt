-- If two pictures have the same boxes of reconfigurations, they show reconfigurations with the same titles.
use Rattle.std.proofs.Common.{◌≡◌, ℕ, suc, ◌+◌, ◌<◌, ◌^◌, Bool, true, false, cond, List, [], ◌∷◌, ◌++◌, Option, Some, None, drop, map, length, refl, sym, ap, arith, append-nil, append_assoc, ◌∙◌}
use Rattle.std.specs.Prelude.{codes, nat_lt, slice_get, slice_index, if◌then◌else◌}
use Rattle.std.specs.Option.{option_map_or}
use Rattle.std.proofs.lemmas.List.{append_cancel_left, append_cancel_right}
use Rattle.scram_types.specs.Specification.{Each, IsSpec, Parts}
use Rattle.scram_types.specs.declared.rows.Report.{Report}
use Rattle.form_base.specs.Texts.{texts_below}
use Rattle.flight_facts.specs.Margins.{bound_of}
use Rattle.picture_form.specs.Laws.{IsReportDrawn, drawn_in, drawn_titles}
use Rattle.picture_form.specs.Reconfigurations.{bound_rect, reconfiguration_boxes, report_boxes, report_title}
use Rattle.picture_form.specs.declared.sheets.Sheet.{Sheet}
use Rattle.picture_form.proofs.Cuts.{Start, a_path, cut, skip, walk}
use Rattle.picture_form.proofs.LanesTell.{dropped}
use Rattle.picture_form.proofs.Sections.{bound_ends, own_ends, own_rect, report_box, report_grouped}

-- The text of the boxes of all reconfigurations in a list.
abbrev pub boxes_of : Parts → Sheet → List Report → List ℕ
boxes_of spec sheet [] = []
boxes_of spec sheet (report ∷ reports) = report_boxes spec sheet report ++ boxes_of spec sheet reports

-- All reconfigurations of the list can be drawn.
abbrev pub AllDrawn : List Report → Type 0
AllDrawn [] = Unit {0}
AllDrawn (report ∷ reports) = IsReportDrawn report × AllDrawn reports

drawn_by : (t : Bool) (report : Report) (reports : List Report) → IsReportDrawn report → AllDrawn reports → AllDrawn (cond t (report ∷ reports) reports)
drawn_by true report reports one more = (one, more)
drawn_by false report reports one more = more

pub all_drawn : (frames : ℕ) (reports : List Report) → Each IsReportDrawn reports → AllDrawn (drawn_in frames reports)
all_drawn frames [] known = tt
all_drawn frames (report ∷ reports) known =
    drawn_by (nat_lt report.begin frames) report (drawn_in frames reports) (known 0 report refl) (all_drawn frames reports (λ i x there. known (suc i) x there))

box_by : (t : Bool) (spec : Parts) (sheet : Sheet) (report : Report) (reports : List Report) → cond t (report_boxes spec sheet report) [] ++ boxes_of spec sheet reports
    ≡ boxes_of spec sheet (cond t (report ∷ reports) reports)
box_by true spec sheet report reports = refl
box_by false spec sheet report reports = refl

report_here : (spec : Parts) (sheet : Sheet) (o : Option Report) (report : Report) → o ≡ Some report
    → option_map_or (λ (r : Report). if nat_lt r.begin sheet.rows then report_boxes spec sheet r else []) o [] ≡ (if nat_lt report.begin sheet.rows then report_boxes spec sheet report else [])
report_here spec sheet o report e = rw e refl

boxes_from : (spec : Parts) (sheet : Sheet) (all reports : List Report) (i : ℕ) → drop i all ≡ reports
    → texts_below (reconfiguration_boxes spec sheet all) (i + length reports) ≡ texts_below (reconfiguration_boxes spec sheet all) i ++ boxes_of spec sheet (drawn_in sheet.rows reports)
boxes_from spec sheet all [] i d =
    let none : i + 0 ≡ i = omega arith in
    ap (texts_below (reconfiguration_boxes spec sheet all)) none ∙ sym (append-nil (texts_below (reconfiguration_boxes spec sheet all) i))
boxes_from spec sheet all (report ∷ reports) i d =
    let f = reconfiguration_boxes spec sheet all in
    let next : i + suc (length reports) ≡ suc i + length reports = omega arith in
    let known = dropped all i report reports d in
    ap (texts_below f) next
    ∙ boxes_from spec sheet all reports (suc i) known.1
    ∙ append_assoc (texts_below f i) (f i) (boxes_of spec sheet (drawn_in sheet.rows reports))
    ∙ ap (λ (text : List ℕ). texts_below f i ++ (text ++ boxes_of spec sheet (drawn_in sheet.rows reports))) (report_here spec sheet (slice_get all i) report known.0)
    ∙ ap (λ (text : List ℕ). texts_below f i ++ text) (box_by (nat_lt report.begin sheet.rows) spec sheet report (drawn_in sheet.rows reports))

pub boxes_whole : (spec : Parts) (sheet : Sheet) (reports : List Report) → texts_below (reconfiguration_boxes spec sheet reports) (length reports) ≡ boxes_of spec sheet (drawn_in sheet.rows reports)
boxes_whole spec sheet reports =
    let none : length reports ≡ 0 + length reports = omega arith in
    ap (texts_below (reconfiguration_boxes spec sheet reports)) none ∙ boxes_from spec sheet reports reports 0 refl

-- A text followed by `<t` begins with an angle bracket, and the byte after the bracket does not begin a path.
pub record Begins (text : List ℕ) : Type 0 where
  pub letter : ℕ
  pub rest : List ℕ
  pub other : a_path letter ≡ false
  pub is : text ++ 60 ∷ 116 ∷ [] ≡ 60 ∷ letter ∷ rest

begins_by : (bound : Option ℕ) (spec : Parts) (sheet : Sheet) (report : Report) (rest : List ℕ) → Begins ((bound_rect sheet report.begin bound ++ own_rect spec sheet report) ++ rest)
begins_by None spec sheet report rest = record { letter = 114; rest = drop 2 (((bound_rect sheet report.begin None ++ own_rect spec sheet report) ++ rest) ++ 60 ∷ 116 ∷ []); other = refl; is = refl }
begins_by (Some bound) spec sheet report rest = record { letter = 114; rest = drop 2 (((bound_rect sheet report.begin (Some bound) ++ own_rect spec sheet report) ++ rest) ++ 60 ∷ 116 ∷ []); other = refl; is = refl }

whole_is : (spec : Parts) (sheet : Sheet) (report : Report) → report_boxes spec sheet report ≡ bound_rect sheet report.begin (bound_of spec report) ++ own_rect spec sheet report
whole_is spec sheet report = report_grouped (bound_rect sheet report.begin (bound_of spec report)) (report_box sheet report) (report_title spec report)

pub boxes_begin : (spec : Parts) (sheet : Sheet) (reports : List Report) → Begins (boxes_of spec sheet reports)
boxes_begin spec sheet [] = record { letter = 116; rest = []; other = refl; is = refl }
boxes_begin spec sheet (report ∷ reports) =
    let begins = begins_by (bound_of spec report) spec sheet report (boxes_of spec sheet reports) in
    record {
      letter = begins.letter;
      rest = begins.rest;
      other = begins.other;
      is = ap (λ (text : List ℕ). (text ++ boxes_of spec sheet reports) ++ 60 ∷ 116 ∷ []) (whole_is spec sheet report) ∙ begins.is;
    }

-- If two equal texts consist of lines of stable configurations, followed by boxes of reconfigurations, the boxes are
-- the same.
pub boxes_same : (lines boxes others more : List ℕ) → walk a_path Start lines ≡ Start → walk a_path Start others ≡ Start → Begins boxes → Begins more → lines ++ boxes ≡ others ++ more → boxes ≡ more
boxes_same lines boxes others more e f begins other_begins h =
    let whole = sym (append_assoc lines boxes (60 ∷ 116 ∷ [])) ∙ ap (λ (text : List ℕ). text ++ 60 ∷ 116 ∷ []) h ∙ append_assoc others more (60 ∷ 116 ∷ []) in
    let apart = ap (λ (text : List ℕ). lines ++ text) (sym begins.is) ∙ whole ∙ ap (λ (text : List ℕ). others ++ text) other_begins.is in
    let front = (skip a_path begins.letter other_begins.letter Start lines others begins.rest other_begins.rest begins.other other_begins.other e f apart).0 in
    append_cancel_left others boxes more (ap (λ (text : List ℕ). text ++ boxes) (sym front) ∙ h)

no_boxes : (bound : Option ℕ) (spec : Parts) (sheet : Sheet) (report : Report) (rest : List ℕ) → (bound_rect sheet report.begin bound ++ own_rect spec sheet report) ++ rest ≡ [] → ⊥
no_boxes None spec sheet report rest h = let x = h in cc
no_boxes (Some bound) spec sheet report rest h = let x = h in cc

pub record SameTitles (spec : Parts) (report other : Report) (text other_text : List ℕ) : Type 0 where
  pub title : report_title spec report ≡ report_title spec other
  pub behind : text ≡ other_text

own_same : (spec : Parts) (sheet other_sheet : Sheet) (report other : Report) (r s : List ℕ) → IsSpec spec → sheet.rows < 2 ^ 32 → other_sheet.rows < 2 ^ 32 → IsReportDrawn report → IsReportDrawn other
    → own_rect spec sheet report ++ r ≡ own_rect spec other_sheet other ++ s → SameTitles spec report other r s
own_same spec sheet other_sheet report other r s sound few fits known drawn h =
    let mine = own_ends spec sheet report sound few known in
    let theirs = own_ends spec other_sheet other sound fits drawn in
    let lines = cut 10 (Some 1) (own_rect spec sheet report) (own_rect spec other_sheet other) r s mine.line theirs.line h in
    let boxes = cut 34 (Some 8) (report_box sheet report) (report_box other_sheet other) _ _ mine.box theirs.box (append_cancel_left (codes "<rect class=\"reconfiguration\"") _ _ lines.0) in
    let titles : report_title spec report ++ codes "</title></rect>\n" ≡ report_title spec other ++ codes "</title></rect>\n" = append_cancel_left (codes "><title>") _ _ boxes.1 in
    record { title = append_cancel_right (report_title spec report) (report_title spec other) (codes "</title></rect>\n") titles; behind = lines.1 }

both_same : (bound given : Option ℕ) (spec : Parts) (sheet other_sheet : Sheet) (report other : Report) (r s : List ℕ) → IsSpec spec → sheet.rows < 2 ^ 32 → other_sheet.rows < 2 ^ 32 → IsReportDrawn report
    → IsReportDrawn other → (bound_rect sheet report.begin bound ++ own_rect spec sheet report) ++ r ≡ (bound_rect other_sheet other.begin given ++ own_rect spec other_sheet other) ++ s
    → SameTitles spec report other r s
both_same None None spec sheet other_sheet report other r s sound few fits known drawn h = own_same spec sheet other_sheet report other r s sound few fits known drawn h
both_same None (Some given) spec sheet other_sheet report other r s sound few fits known drawn h =
    let e : ◌≡◌ {A = ℕ} 114 98 = ap (λ (t : List ℕ). slice_index t 13) h in absurd (omega (arith, e))
both_same (Some bound) None spec sheet other_sheet report other r s sound few fits known drawn h =
    let e : ◌≡◌ {A = ℕ} 98 114 = ap (λ (t : List ℕ). slice_index t 13) h in absurd (omega (arith, e))
both_same (Some bound) (Some given) spec sheet other_sheet report other r s sound few fits known drawn h =
    let apart = sym (append_assoc (bound_rect sheet report.begin (Some bound)) (own_rect spec sheet report) r) ∙ h ∙ append_assoc (bound_rect other_sheet other.begin (Some given)) (own_rect spec other_sheet other) s in
    let lines = cut 10 (Some 1) (bound_rect sheet report.begin (Some bound)) (bound_rect other_sheet other.begin (Some given)) (own_rect spec sheet report ++ r) (own_rect spec other_sheet other ++ s)
    (bound_ends sheet report.begin bound few known.begin) (bound_ends other_sheet other.begin given fits drawn.begin) apart in
    own_same spec sheet other_sheet report other r s sound few fits known drawn lines.1

titles_same : (spec : Parts) (sheet other_sheet : Sheet) (reports others : List Report) → IsSpec spec → sheet.rows < 2 ^ 32 → other_sheet.rows < 2 ^ 32 → AllDrawn reports → AllDrawn others
    → boxes_of spec sheet reports ≡ boxes_of spec other_sheet others → map (report_title spec) reports ≡ map (report_title spec) others
titles_same spec sheet other_sheet [] [] sound few fits known drawn h = refl
titles_same spec sheet other_sheet [] (other ∷ others) sound few fits known drawn h =
    absurd (no_boxes (bound_of spec other) spec other_sheet other (boxes_of spec other_sheet others)
    (ap (λ (text : List ℕ). text ++ boxes_of spec other_sheet others) (sym (whole_is spec other_sheet other)) ∙ sym h))
titles_same spec sheet other_sheet (report ∷ reports) [] sound few fits known drawn h =
    absurd (no_boxes (bound_of spec report) spec sheet report (boxes_of spec sheet reports) (ap (λ (text : List ℕ). text ++ boxes_of spec sheet reports) (sym (whole_is spec sheet report)) ∙ h))
titles_same spec sheet other_sheet (report ∷ reports) (other ∷ others) sound few fits known drawn h =
    let whole = ap (λ (text : List ℕ). text ++ boxes_of spec sheet reports) (sym (whole_is spec sheet report)) ∙ h ∙ ap (λ (text : List ℕ). text ++ boxes_of spec other_sheet others) (whole_is spec other_sheet other) in
    let first = both_same (bound_of spec report) (bound_of spec other) spec sheet other_sheet report other (boxes_of spec sheet reports) (boxes_of spec other_sheet others) sound few fits known.0 drawn.0 whole in
    let more = titles_same spec sheet other_sheet reports others sound few fits known.1 drawn.1 first.behind in
    ap (λ (title : List ℕ). title ∷ map (report_title spec) reports) first.title ∙ ap (λ (titles : List (List ℕ)). report_title spec other ∷ titles) more

-- If two flights have the same boxes of reconfigurations, the reconfigurations that the boxes show have the same
-- titles.
pub reports_tell : (spec : Parts) (sheet other_sheet : Sheet) (reports others : List Report) → IsSpec spec → sheet.rows < 2 ^ 32 → other_sheet.rows < 2 ^ 32 → Each IsReportDrawn reports → Each IsReportDrawn others
    → boxes_of spec sheet (drawn_in sheet.rows reports) ≡ boxes_of spec other_sheet (drawn_in other_sheet.rows others)
    → drawn_titles spec sheet.rows reports ≡ drawn_titles spec other_sheet.rows others
reports_tell spec sheet other_sheet reports others sound few fits known drawn h =
    titles_same spec sheet other_sheet (drawn_in sheet.rows reports) (drawn_in other_sheet.rows others) sound few fits (all_drawn sheet.rows reports known) (all_drawn other_sheet.rows others drawn) h
