-- Each part of a picture consists of whole lines.
use Rattle.std.proofs.Common.{◌≡◌, ℕ, zero, suc, ◌+◌, ◌-◌, ◌*◌, ◌<◌, ◌≤◌, ◌^◌, min, Bool, true, false, cond, List, [], ◌∷◌, ◌++◌, Option, Some, None, drop, length, decimal, refl, ap, append_assoc, arith, div-le_self, mul-le-mul, ◌∙◌}
use Rattle.std.specs.Prelude.{codes, nat_lt, slice_get, if◌then◌else◌}
use Rattle.std.specs.Option.{option_map_or}
use Rattle.scram_types.specs.Specification.{Each, IsSpec, Parts}
use Rattle.scram_types.specs.Lookups.{conf_name}
use Rattle.scram_types.specs.declared.rows.Report.{Report}
use Rattle.scram_types.specs.declared.rows.Row.{Row}
use Rattle.scram_types.specs.declared.ids.ConfId.{ConfId}
use Rattle.trace_text.specs.Names.{conf_or_dash}
use Rattle.trace_text.specs.Text.{bound_text}
use Rattle.trace_text.proofs.ReportsBack.{IsSmallBound, bound_small, greatest_small}
use Rattle.trace_text.proofs.WordBytes.{all_over}
use Rattle.flight_facts.specs.Margins.{bound_of, bound_to}
use Rattle.flight_facts.specs.Spans.{alike_rows, is_new, stable_conf}
use Rattle.form_base.specs.Texts.{texts_below}
use Rattle.picture_form.specs.Boxes.{box_text}
use Rattle.picture_form.specs.Laws.{IsReportDrawn, IsRowDrawn}
use Rattle.picture_form.specs.Lanes.{spans_text}
use Rattle.picture_form.specs.Picture.{conf_strip, grid_text, open_line, tick_line, tick_text, ticks_text}
use Rattle.picture_form.specs.Reconfigurations.{begin_line, begin_text, bound_rect, end_text, reconfiguration_boxes, report_boxes, report_title, route_text, rows_width, times_text}
use Rattle.picture_form.specs.Sheets.{bottom_of, lanes_of, rows_of_tick, scale_of, sheet_height, sheet_width, ticks_of, width_of, x_of}
use Rattle.picture_form.specs.Spans.{begun_text, rect_text, span_label, stable_text}
use Rattle.picture_form.specs.declared.sheets.Sheet.{Sheet}
use Rattle.picture_form.specs.declared.spans.Span.{Span}
use Rattle.picture_form.specs.declared.spans.Strip.{Strip}
use Rattle.picture_form.proofs.Cuts.{Start, both_over, is_line, left_after, no_name, passed, walk, walk_both}
use Rattle.picture_form.proofs.RectsBack.{box_plain, box_quotes, decimal_plain, label_plain}
use Rattle.picture_form.proofs.ShowsBack.{IsShownIn, conf_name_over, plain}
use Rattle.picture_form.proofs.SpansBack.{alike_few, rect_line, scale_most, span_of, width_small, x_small}
use Rattle.picture_form.proofs.LanesTell.{begun, begun_is, is_drawn, spans_from, spans_whole}

-- Lemmas that single lines, and texts concatenated from whole lines, consist of whole lines.

path_line : (ok : ℕ → Bool) (t : List ℕ) → ok 112 ≡ true → left_after 10 (Some 1) (60 ∷ 112 ∷ t) ≡ Some 0 → walk ok Start (60 ∷ 112 ∷ t) ≡ Start
path_line ok t good e = is_line ok 112 t good refl e

box_line : (t : List ℕ) → left_after 10 (Some 1) (60 ∷ 114 ∷ t) ≡ Some 0 → walk no_name Start (60 ∷ 114 ∷ t) ≡ Start
box_line t e = is_line no_name 114 t refl refl e

pub walk_below : (text : ℕ → List ℕ) (n : ℕ) → ((k : ℕ) → k < n → walk no_name Start (text k) ≡ Start) → walk no_name Start (texts_below text n) ≡ Start
walk_below text zero each = refl
walk_below text (suc n) each = walk_both no_name (texts_below text n) (text n) (walk_below text n (λ k less. each k (omega (arith, less)))) (each n (omega arith))

walk_where : (there : Bool) (text : List ℕ) → walk no_name Start text ≡ Start → walk no_name Start (cond there text []) ≡ Start
walk_where true text e = e
walk_where false text e = refl

-- Lemmas on the size of a sheet.

-- A sheet has fewer than `2 ^ 32` rows, and at most 22 lanes, which is the maximum that a specification can have.
pub record IsSmall (sheet : Sheet) : Type 0 where
  pub rows : sheet.rows < 2 ^ 32
  pub lanes : lanes_of sheet ≤ 22

pub open_ends : (sheet : Sheet) → IsSmall sheet → left_after 10 (Some 1) (open_line sheet) ≡ Some 0
open_ends sheet small =
    let rows = small.rows in
    let lanes = small.lanes in
    let few : sheet.rows ≤ 2 ^ 32 = omega (arith, rows) in
    let most : scale_of sheet.rows * sheet.rows ≤ 8 * 2 ^ 32 = mul-le-mul (scale_most sheet.rows) few in
    let width = decimal_plain (sheet_width sheet) (omega (arith, most)) in
    let height = decimal_plain (sheet_height sheet) (omega (arith, lanes)) in
    simp append_assoc (passed 10 32 0 (decimal (sheet_width sheet)) _ (omega arith) width ∙ (passed 10 32 0 (decimal (sheet_height sheet)) _ (omega arith) height
    ∙ (passed 10 32 0 (decimal (sheet_width sheet)) _ (omega arith) width ∙ passed 10 32 0 (decimal (sheet_height sheet)) _ (omega arith) height)))

tick_by : (a b c : Bool) → cond a 100 (cond b 50 (cond c 25 10)) ≤ 100
tick_by true b c = omega arith
tick_by false true c = omega arith
tick_by false false true = omega arith
tick_by false false false = omega arith

tick_most : (rows : ℕ) → rows_of_tick rows ≤ 100
tick_most rows = tick_by (nat_lt 8000 rows) (nat_lt 4000 rows) (nat_lt 2000 rows)

tick_line_ends : (sheet : Sheet) (k : ℕ) → IsSmall sheet → k ≤ 2 ^ 40 → left_after 10 (Some 1) (tick_line sheet k) ≡ Some 0
tick_line_ends sheet k small few =
    let lanes = small.lanes in
    let most : scale_of sheet.rows * k ≤ 8 * 2 ^ 40 = mul-le-mul (scale_most sheet.rows) few in
    let x = decimal_plain (x_of sheet k) (omega (arith, most)) in
    simp append_assoc (passed 10 32 0 (decimal (x_of sheet k)) _ (omega arith) x ∙ (passed 10 32 0 (decimal (bottom_of sheet)) _ (omega arith) (decimal_plain (bottom_of sheet) (omega (arith, lanes)))
    ∙ (passed 10 32 0 (decimal (x_of sheet k)) _ (omega arith) x ∙ (passed 10 32 0 (decimal (bottom_of sheet + 14)) _ (omega arith) (decimal_plain (bottom_of sheet + 14) (omega (arith, lanes)))
    ∙ passed 10 32 0 (decimal k) _ (omega arith) (decimal_plain k (omega (arith, few)))))))

tick_walk : (sheet : Sheet) (j : ℕ) → IsSmall sheet → j < ticks_of sheet → walk no_name Start (tick_text sheet j) ≡ Start
tick_walk sheet j small less =
    let rows = small.rows in
    let few = div-le_self sheet.rows (rows_of_tick sheet.rows) in
    let some : j ≤ 2 ^ 33 = omega (arith, less, few, rows) in
    let most : j * rows_of_tick sheet.rows ≤ 2 ^ 33 * 100 = mul-le-mul some (tick_most sheet.rows) in
    path_line no_name (drop 2 (tick_text sheet j)) refl (tick_line_ends sheet (j * rows_of_tick sheet.rows) small (omega (arith, most)))

begin_walk : (sheet : Sheet) (o : Option Report) → IsSmall sheet → ((report : Report) → o ≡ Some report → IsReportDrawn report)
    → walk no_name Start (option_map_or (λ (report : Report). if nat_lt report.begin sheet.rows then begin_line sheet report.begin else []) o []) ≡ Start
begin_walk sheet None small known = refl
begin_walk sheet (Some report) small known =
    let few = (known report refl).begin in
    let lanes = small.lanes in
    let x = x_small sheet report.begin (omega (arith, few)) in
    let ends : left_after 10 (Some 1) (begin_line sheet report.begin) ≡ Some 0
    = simp append_assoc (passed 10 32 0 (decimal (x_of sheet report.begin)) _ (omega arith) (decimal_plain (x_of sheet report.begin) (omega (arith, x)))
    ∙ passed 10 32 0 (decimal (bottom_of sheet)) _ (omega arith) (decimal_plain (bottom_of sheet) (omega (arith, lanes)))) in
    walk_where (nat_lt report.begin sheet.rows) (begin_line sheet report.begin) (path_line no_name (drop 2 (begin_line sheet report.begin)) refl ends)

-- The ticks and the lines at the starts of reconfigurations consist of whole lines that name no lane.
pub grid_walk : (sheet : Sheet) (reports : List Report) → IsSmall sheet → Each IsReportDrawn reports
    → walk no_name Start (grid_text sheet reports) ≡ Start
grid_walk sheet reports small known =
    walk_both no_name (ticks_text sheet) (texts_below (begin_text sheet reports) (length reports)) (walk_below (tick_text sheet) (ticks_of sheet) (λ j less. tick_walk sheet j small less))
    (walk_below (begin_text sheet reports) (length reports) (λ n less. begin_walk sheet (slice_get reports n) small (λ report there. known n report there)))

-- The text of a span in which a configuration is stable consists of whole lines.

stable_walk : (ok : ℕ → Bool) (spec : Parts) (sheet : Sheet) (conf : Option ConfId) (span : Span) → ok 112 ≡ true → IsSpec spec → span.first ≤ 2 ^ 33 → span.rows ≤ 2 ^ 33 → span.y ≤ 6000 → walk ok Start (stable_text spec sheet conf span) ≡ Start
stable_walk ok spec sheet None span good sound few rows low = refl
stable_walk ok spec sheet (Some c) span good sound few rows low =
    let x = x_small sheet span.first few in
    let width = width_small sheet span.rows rows in
    let label = label_plain (x_of sheet span.first) span.y (width_of sheet span.rows) (conf_name spec c.0) (omega (arith, x)) (omega (arith, low)) (plain (conf_name spec c.0) (conf_name_over spec c.0 sound)) in
    let ends : left_after 10 (Some 1) (stable_text spec sheet (Some c) span) ≡ Some 0
    = simp append_assoc (passed 10 32 0 (decimal (x_of sheet span.first)) _ (omega arith) (decimal_plain (x_of sheet span.first) (omega (arith, x)))
    ∙ (passed 10 32 0 (decimal (width_of sheet span.rows)) _ (omega arith) (decimal_plain (width_of sheet span.rows) (omega (arith, width)))
    ∙ passed 10 32 0 (span_label sheet span (conf_name spec c.0)) _ (omega arith) label)) in
    path_line ok (drop 2 (stable_text spec sheet (Some c) span)) good ends

stable_by : (ok : ℕ → Bool) (new : Bool) (spec : Parts) (sheet : Sheet) (row : Row) (k n : ℕ) → ok 112 ≡ true → IsSpec spec → k ≤ 2 ^ 33 → n < 2 ^ 33 → walk ok Start (begun_text spec sheet row conf_strip k (if new then Some (n + 1) else None)) ≡ Start
stable_by ok true spec sheet row k n good sound few rows =
    stable_walk ok spec sheet (stable_conf row.mode) (record { lane = conf_strip.lane; y = conf_strip.y; first = k; rows = n + 1 }) good sound few (omega (arith, rows)) (omega arith)
stable_by ok false spec sheet row k n good sound few rows = refl

stables_walk : (ok : ℕ → Bool) (spec : Parts) (sheet : Sheet) (rows : List Row) (k : ℕ) (before : Option Row) → ok 112 ≡ true → IsSpec spec → k + length rows < 2 ^ 32 → walk ok Start (spans_from spec sheet conf_strip k before rows) ≡ Start
stables_walk ok spec sheet [] k before good sound few = refl
stables_walk ok spec sheet (row ∷ rows) k before good sound few =
    let most = alike_few conf_strip.lane row rows in
    walk_both ok (begun spec sheet conf_strip k before row rows) (spans_from spec sheet conf_strip (suc k) (Some row) rows)
    (stable_by ok (is_new conf_strip.lane before row) spec sheet row k (alike_rows conf_strip.lane row rows) good sound (omega (arith, few)) (omega (arith, few, most)))
    (stables_walk ok spec sheet rows (suc k) (Some row) good sound (omega (arith, few)))

pub stable_spans_walk : (ok : ℕ → Bool) (spec : Parts) (sheet : Sheet) (rows : List Row) → ok 112 ≡ true → IsSpec spec → length rows < 2 ^ 32 → walk ok Start (spans_text spec sheet rows conf_strip) ≡ Start
stable_spans_walk ok spec sheet rows good sound few = ap (walk ok Start) (spans_whole spec sheet rows conf_strip) ∙ stables_walk ok spec sheet rows 0 None good sound (omega (arith, few))

-- Lemmas that the boxes of a lane consist of whole lines.

boxes_by : (drawn : Bool) (text rest : List ℕ) → (drawn ≡ true → walk no_name Start text ≡ Start) → walk no_name Start rest ≡ Start → walk no_name Start (cond drawn text [] ++ rest) ≡ Start
boxes_by true text rest e f = walk_both no_name text rest (e refl) f
boxes_by false text rest e f = f

boxes_walk : (spec : Parts) (sheet : Sheet) (strip : Strip) (rows : List Row) (k : ℕ) (before : Option Row) → IsSpec spec → IsShownIn spec strip.lane → strip.y ≤ 6000 → Each (IsRowDrawn spec) rows
    → k + length rows < 2 ^ 32 → walk no_name Start (spans_from spec sheet strip k before rows) ≡ Start
boxes_walk spec sheet strip [] k before sound inside low known few = refl
boxes_walk spec sheet strip (row ∷ rows) k before sound inside low known few =
    let most = alike_few strip.lane row rows in
    let box = rect_text spec sheet row (span_of strip.lane strip.y k (alike_rows strip.lane row rows)) in
    let rest = spans_from spec sheet strip (suc k) (Some row) rows in
    ap (λ (text : List ℕ). walk no_name Start (text ++ rest)) (begun_is spec sheet strip k before row rows inside)
    ∙ boxes_by (is_drawn strip.lane before row) box rest
    (λ drawn. box_line (drop 2 box) (rect_line spec sheet row strip.lane strip.y k (alike_rows strip.lane row rows) sound inside (known 0 row refl) low (omega (arith, few, most))))
    (boxes_walk spec sheet strip rows (suc k) (Some row) sound inside low (λ i x there. known (suc i) x there) (omega (arith, few)))

pub lane_walk : (spec : Parts) (sheet : Sheet) (rows : List Row) (strip : Strip) → IsSpec spec → IsShownIn spec strip.lane → strip.y ≤ 6000 → Each (IsRowDrawn spec) rows → length rows < 2 ^ 32
    → walk no_name Start (spans_text spec sheet rows strip) ≡ Start
lane_walk spec sheet rows strip sound inside low known few =
    ap (walk no_name Start) (spans_whole spec sheet rows strip) ∙ boxes_walk spec sheet strip rows 0 None sound inside low known (omega (arith, few))

-- Lemmas that the boxes of reconfigurations consist of whole lines.

bound_to_small : (spec : Parts) (from : ConfId) (to : Option ConfId) → IsSpec spec → IsSmallBound (bound_to spec from to)
bound_to_small spec from None sound = greatest_small spec spec.bounds from.0 None sound.bounds tt
bound_to_small spec from (Some to) sound = bound_small spec spec.bounds from.0 to.0 sound.bounds

bound_plain : (given : Option ℕ) → IsSmallBound given → all_over 32 (bound_text given) ≡ true
bound_plain None h = refl
bound_plain (Some frames) h = decimal_plain frames (omega (arith, h))

dash_plain : (spec : Parts) (conf : Option ConfId) → IsSpec spec → all_over 32 (conf_or_dash spec conf) ≡ true
dash_plain spec None sound = refl
dash_plain spec (Some c) sound = plain (conf_name spec c.0) (conf_name_over spec c.0 sound)

route_plain : (spec : Parts) (from : ConfId) (to : Option ConfId) → IsSpec spec → all_over 32 (route_text spec from to) ≡ true
unfolding route_text
route_plain spec from to sound =
    ap (all_over 32) (append_assoc (codes "reconfiguration " ++ conf_name spec from.0) (codes " &gt; ") (conf_or_dash spec to))
    ∙ both_over 32 (conf_name spec from.0) (codes " &gt; " ++ conf_or_dash spec to) (plain (conf_name spec from.0) (conf_name_over spec from.0 sound)) (dash_plain spec to sound)

end_plain : (report : Report) (to : Option ConfId) → IsReportDrawn report → all_over 32 (end_text report to) ≡ true
end_plain report None known = refl
end_plain report (Some to) known = let end = known.end in decimal_plain report.end (omega (arith, end))

eight_grouped : (a b c d e f g h : List ℕ) → a ++ b ++ c ++ d ++ (e ++ f ++ g ++ h) ≡ a ++ (b ++ (c ++ (d ++ (e ++ (f ++ (g ++ h))))))
eight_grouped a b c d e f g h = simp append_assoc

times_grouped : (begin end took bound : List ℕ) → codes " begin " ++ begin ++ codes " end " ++ end ++ (codes " took " ++ took ++ codes " of " ++ bound)
    ≡ codes " begin " ++ (begin ++ (codes " end " ++ (end ++ (codes " took " ++ (took ++ (codes " of " ++ bound))))))
times_grouped begin end took bound = eight_grouped (codes " begin ") begin (codes " end ") end (codes " took ") took (codes " of ") bound

times_plain : (spec : Parts) (report : Report) → IsSpec spec → IsReportDrawn report → all_over 32 (times_text spec report) ≡ true
unfolding times_text
times_plain spec report sound known =
    let begin = known.begin in
    let end = known.end in
    ap (all_over 32) (times_grouped (decimal report.begin) (end_text report report.to) (decimal (report.end - report.begin)) (bound_text (bound_of spec report)))
    ∙ both_over 32 (decimal report.begin) (codes " end " ++ (end_text report report.to ++ (codes " took " ++ (decimal (report.end - report.begin) ++ (codes " of " ++ bound_text (bound_of spec report))))))
    (decimal_plain report.begin (omega (arith, begin)))
    (both_over 32 (end_text report report.to) (codes " took " ++ (decimal (report.end - report.begin) ++ (codes " of " ++ bound_text (bound_of spec report)))) (end_plain report report.to known)
    (both_over 32 (decimal (report.end - report.begin)) (codes " of " ++ bound_text (bound_of spec report)) (decimal_plain (report.end - report.begin) (omega (arith, end)))
    (bound_plain (bound_of spec report) (bound_to_small spec report.from report.to sound))))

title_plain : (spec : Parts) (report : Report) → IsSpec spec → IsReportDrawn report → all_over 32 (report_title spec report) ≡ true
unfolding report_title
title_plain spec report sound known =
    both_over 32 (route_text spec report.from report.to) (times_text spec report) (route_plain spec report.from report.to sound) (times_plain spec report sound known)

width_plain : (sheet : Sheet) (begin last : ℕ) → sheet.rows < 2 ^ 32 → begin < 2 ^ 32 → all_over 32 (box_text (x_of sheet begin) 48 (rows_width sheet begin last)) ≡ true
width_plain sheet begin last few early =
    let x = x_small sheet begin (omega (arith, early)) in
    let rows : min last (sheet.rows - 1) + 1 - begin ≤ 2 ^ 33 = omega (arith, few) in
    let width = width_small sheet (min last (sheet.rows - 1) + 1 - begin) rows in
    box_plain (x_of sheet begin) 48 (rows_width sheet begin last) (omega (arith, x)) (omega arith) (omega (arith, width))

pub bound_ends : (sheet : Sheet) (begin bound : ℕ) → sheet.rows < 2 ^ 32 → begin < 2 ^ 32 → left_after 10 (Some 1) (bound_rect sheet begin (Some bound)) ≡ Some 0
bound_ends sheet begin bound few early =
    passed 10 32 0 (box_text (x_of sheet begin) 48 (rows_width sheet begin (begin + bound))) (codes "/>\n") (omega arith) (width_plain sheet begin (begin + bound) few early)

bound_walk : (sheet : Sheet) (begin : ℕ) (given : Option ℕ) → sheet.rows < 2 ^ 32 → begin < 2 ^ 32 → walk no_name Start (bound_rect sheet begin given) ≡ Start
bound_walk sheet begin None few early = refl
bound_walk sheet begin (Some bound) few early = box_line (drop 2 (bound_rect sheet begin (Some bound))) (bound_ends sheet begin bound few early)

-- The attributes of the box of a reconfiguration.
abbrev pub report_box : Sheet → Report → List ℕ
report_box sheet report = box_text (x_of sheet report.begin) 48 (rows_width sheet report.begin report.end)

-- The box of a reconfiguration with its title, without the outline of its bound.
abbrev pub own_rect : Parts → Sheet → Report → List ℕ
own_rect spec sheet report =
    codes "<rect class=\"reconfiguration\"" ++ (report_box sheet report ++ (codes "><title>" ++ (report_title spec report ++ codes "</title></rect>\n")))

pub record OwnEnds (spec : Parts) (sheet : Sheet) (report : Report) : Type 0 where
  pub line : left_after 10 (Some 1) (own_rect spec sheet report) ≡ Some 0
  pub box : left_after 34 (Some 8) (report_box sheet report) ≡ Some 0

pub own_ends : (spec : Parts) (sheet : Sheet) (report : Report) → IsSpec spec → sheet.rows < 2 ^ 32 → IsReportDrawn report → OwnEnds spec sheet report
own_ends spec sheet report sound few known =
    let begin = known.begin in
    let x = x_small sheet report.begin (omega (arith, begin)) in
    let rows : min report.end (sheet.rows - 1) + 1 - report.begin ≤ 2 ^ 33 = omega (arith, few) in
    let width = width_small sheet (min report.end (sheet.rows - 1) + 1 - report.begin) rows in
    record {
      line = passed 10 32 0 (report_box sheet report) _ (omega arith) (width_plain sheet report.begin report.end few begin)
          ∙ passed 10 32 0 (report_title spec report) _ (omega arith) (title_plain spec report sound known);
      box = box_quotes (x_of sheet report.begin) 48 (rows_width sheet report.begin report.end) (omega (arith, x)) (omega arith) (omega (arith, width));
    }

pub report_grouped : (bound box title : List ℕ) → bound ++ codes "<rect class=\"reconfiguration\"" ++ box ++ codes "><title>" ++ title ++ codes "</title></rect>\n"
    ≡ bound ++ (codes "<rect class=\"reconfiguration\"" ++ (box ++ (codes "><title>" ++ (title ++ codes "</title></rect>\n"))))
report_grouped bound box title = simp append_assoc

own_walk : (spec : Parts) (sheet : Sheet) (report : Report) → IsSpec spec → sheet.rows < 2 ^ 32 → IsReportDrawn report → walk no_name Start (own_rect spec sheet report) ≡ Start
own_walk spec sheet report sound few known = box_line (drop 2 (own_rect spec sheet report)) (own_ends spec sheet report sound few known).line

report_walk : (spec : Parts) (sheet : Sheet) (o : Option Report) → IsSpec spec → IsSmall sheet → ((report : Report) → o ≡ Some report → IsReportDrawn report)
    → walk no_name Start (option_map_or (λ (report : Report). if nat_lt report.begin sheet.rows then report_boxes spec sheet report else []) o []) ≡ Start
report_walk spec sheet None sound small known = refl
report_walk spec sheet (Some report) sound small known =
    walk_where (nat_lt report.begin sheet.rows) (report_boxes spec sheet report)
    (ap (walk no_name Start) (report_grouped (bound_rect sheet report.begin (bound_of spec report)) (box_text (x_of sheet report.begin) 48 (rows_width sheet report.begin report.end)) (report_title spec report))
    ∙ walk_both no_name (bound_rect sheet report.begin (bound_of spec report)) (own_rect spec sheet report) (bound_walk sheet report.begin (bound_of spec report) small.rows (known report refl).begin)
    (own_walk spec sheet report sound small.rows (known report refl)))

pub reports_walk : (spec : Parts) (sheet : Sheet) (reports : List Report) → IsSpec spec → IsSmall sheet → Each IsReportDrawn reports
    → walk no_name Start (texts_below (reconfiguration_boxes spec sheet reports) (length reports)) ≡ Start
reports_walk spec sheet reports sound small known =
    walk_below (reconfiguration_boxes spec sheet reports) (length reports) (λ n less. report_walk spec sheet (slice_get reports n) sound small (λ report there. known n report there))
