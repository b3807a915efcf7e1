-- A line that is read as the line of a reconfiguration is the printed text of the reconfiguration. A line that is
-- read as the end line is the printed end line.
use Rattle.std.proofs.Common.{ℕ, ◌≡◌, ◌-◌, ◌^◌, ◌∙◌, Bool, true, false, cond, List, [], ◌∷◌, ◌++◌, Option, Some, None, Ok, Err, length, decimal, refl, sym, ap}
use Rattle.std.specs.Prelude.{◌==◌, ◌&&◌, bytes_eq, codes, nat_le, option_map, ⊤}
use Rattle.std.specs.List.{join_with_byte}
use Rattle.std.proofs.lemmas.Bool.{and_parts, eqb-true}
use Rattle.scram_types.specs.declared.limits.TheConstants.{MAX_FRAMES}
use Rattle.scram_types.specs.Specification.{Parts, bound_in, greatest_bound_in}
use Rattle.scram_types.specs.declared.ids.ConfId.{ConfId}
use Rattle.scram_types.specs.declared.rows.Report.{Report}
use Rattle.scram_types.specs.Lookups.{conf_named, conf_name}
use Rattle.trace_text.specs.Pieces.{words_in, words_of, is_word, word_at}
use Rattle.trace_text.specs.ReportReading.{bound_or_none, end_in, end_read, finished_report, is_end_form, is_report_form, report_end, report_in, report_read, same_bound, unfinished_report}
use Rattle.trace_text.specs.Spelling.{spelled_number}
use Rattle.trace_text.specs.Text.{bound_text, end_line, report_line}
use Rattle.trace_text.specs.TraceReading.{begins}
use Rattle.trace_text.specs.declared.rule.TheConstants.{NO_FORM, UNKNOWN_NAME, WRONG_COUNT, WRONG_NUMBER}
use Rattle.trace_text.proofs.Found.{conf_found}
use Rattle.scram_types.proofs.Equality.{same_text}
use Rattle.trace_text.proofs.Inversion.{both, if_ok, is_text, line_joined, map_some, or_rule_ok, words_are, words_listed}
use Rattle.trace_text.proofs.Shapes.{end_shape, finished_shape, unfinished_shape}
use Rattle.trace_text.proofs.Spelling.{number_spelled}

bound_by : (t : Bool) (text : List ℕ) (b : Option ℕ) → (t ≡ true → text ≡ codes "-") → cond t (Some None) (option_map (λ (n : ℕ). Some n) (spelled_number (2 ^ 32) text)) ≡ Some b →
    text ≡ bound_text b
bound_by true text b dash h = let e : None ≡ b = cc in rw (← e) (dash refl)
bound_by false text b dash h =
    let p = map_some (λ (n : ℕ). Some n) (spelled_number (2 ^ 32) text) b h in
    rw (← p.2) (number_spelled (2 ^ 32) p.0 text p.1).0

bound_spelled : (text : List ℕ) (b : Option ℕ) → bound_or_none text ≡ Some b → text ≡ bound_text b
bound_spelled text b h = bound_by (bytes_eq text (codes "-")) text b (same_text text (codes "-")) h

bounds_same : (a b : Option ℕ) → same_bound a b ≡ true → a ≡ b
bounds_same None None h = refl
bounds_same None (Some b) h = absurd (let e = h in cc)
bounds_same (Some a) None h = absurd (let e = h in cc)
bounds_same (Some a) (Some b) h = ap Some (eqb-true a b h)

-- The words spell the first frame, the length and the given bound of a reconfiguration, and `report` is the
-- reconfiguration.
record ReportEnd (ws : List (List ℕ)) (from : ConfId) (to : Option ConfId) (end : ℕ) (given : Option ℕ) (report : Report) : Type 0 where
  begin : ℕ
  begun : word_at ws 5 ≡ decimal begin
  took : word_at ws 9 ≡ decimal (end - begin)
  bound : word_at ws 11 ≡ bound_text given
  report_is : record { from = from; to = to; begin = begin; end = end } ≡ report

report_ended : (ws : List (List ℕ)) (from : ConfId) (to : Option ConfId) (end : ℕ) (given : Option ℕ) (report : Report) → report_end ws from to end given ≡ Ok report →
    ReportEnd ws from to end given report
report_ended ws from to end given report h =
    let s = or_rule_ok WRONG_NUMBER (spelled_number MAX_FRAMES (word_at ws 5)) _ report h in
    let d = or_rule_ok WRONG_NUMBER (spelled_number (2 ^ 32) (word_at ws 9)) _ report s.2 in
    let b = or_rule_ok WRONG_NUMBER (bound_or_none (word_at ws 11)) _ report d.2 in
    let t = if_ok (nat_le s.0 end && (d.0 == end - s.0) && same_bound b.0 given) _ WRONG_COUNT report b.2 in
    let p = and_parts (nat_le s.0 end && (d.0 == end - s.0)) (same_bound b.0 given) t.0 in
    let q = and_parts (nat_le s.0 end) (d.0 == end - s.0) p.0 in
    let length_is : d.0 ≡ end - s.0 = eqb-true d.0 (end - s.0) q.1 in
    record {
      begin = s.0;
      begun = (number_spelled MAX_FRAMES s.0 (word_at ws 5) s.1).0;
      took = (number_spelled (2 ^ 32) d.0 (word_at ws 9) d.1).0 ∙ ap decimal length_is;
      bound = bound_spelled (word_at ws 11) b.0 b.1 ∙ ap bound_text (bounds_same b.0 given p.1);
      report_is = let e : record { from = from; to = to; begin = s.0; end = end } ≡ report = cc in e;
    }

record ReportForm (ws : List (List ℕ)) : Type 0 where
  count : (length ws == 12) ≡ true
  w2 : word_at ws 2 ≡ codes ">"
  w4 : word_at ws 4 ≡ codes "begin"
  w6 : word_at ws 6 ≡ codes "end"
  w8 : word_at ws 8 ≡ codes "took"
  w10 : word_at ws 10 ≡ codes "of"

report_form : (ws : List (List ℕ)) → is_report_form ws ≡ true → ReportForm ws
report_form ws h =
    let a = and_parts ((length ws == 12) && is_word ws 2 (codes ">") && is_word ws 4 (codes "begin") && is_word ws 6 (codes "end") && is_word ws 8 (codes "took")) (is_word ws 10 (codes "of")) h in
    let b = and_parts ((length ws == 12) && is_word ws 2 (codes ">") && is_word ws 4 (codes "begin") && is_word ws 6 (codes "end")) (is_word ws 8 (codes "took")) a.0 in
    let c = and_parts ((length ws == 12) && is_word ws 2 (codes ">") && is_word ws 4 (codes "begin")) (is_word ws 6 (codes "end")) b.0 in
    let d = and_parts ((length ws == 12) && is_word ws 2 (codes ">")) (is_word ws 4 (codes "begin")) c.0 in
    let e = and_parts (length ws == 12) (is_word ws 2 (codes ">")) d.0 in
    record { count = e.0; w2 = is_text ws 2 _ e.1; w4 = is_text ws 4 _ d.1; w6 = is_text ws 6 _ c.1; w8 = is_text ws 8 _ b.1; w10 = is_text ws 10 _ a.1 }

finished_read : (spec : Parts) (line : List ℕ) (ws : List (List ℕ)) (report : Report) → line ≡ join_with_byte 32 ws → word_at ws 0 ≡ codes "reconfiguration" → ReportForm ws →
    finished_report spec ws ≡ Ok report → report_line spec report ≡ line ++ codes "\n"
finished_read spec line ws report joined_is w0 form h =
    let f = or_rule_ok UNKNOWN_NAME (conf_named spec (word_at ws 1)) _ report h in
    let t = or_rule_ok UNKNOWN_NAME (conf_named spec (word_at ws 3)) _ report f.2 in
    let e = or_rule_ok WRONG_NUMBER (spelled_number MAX_FRAMES (word_at ws 7)) _ report t.2 in
    let told = report_ended ws f.0 (Some t.0) e.0 (bound_in spec.bounds f.0.0 t.0.0) report e.2 in
    let w1 : word_at ws 1 ≡ conf_name spec f.0.0 = conf_found spec (word_at ws 1) f.0 f.1 in
    let w2 = form.w2 in
    let w3 : word_at ws 3 ≡ conf_name spec t.0.0 = conf_found spec (word_at ws 3) t.0 t.1 in
    let w4 = form.w4 in
    let w5 = told.begun in
    let w6 = form.w6 in
    let w7 : word_at ws 7 ≡ decimal e.0 = (number_spelled MAX_FRAMES e.0 (word_at ws 7) e.1).0 in
    let w8 = form.w8 in
    let w9 = told.took in
    let w10 = form.w10 in
    let w11 = told.bound in
    let listed : ws ≡ codes "reconfiguration" ∷ conf_name spec f.0.0 ∷ codes ">" ∷ conf_name spec t.0.0 ∷ codes "begin" ∷ decimal told.begin ∷ codes "end" ∷ decimal e.0
    ∷ codes "took" ∷ decimal (e.0 - told.begin) ∷ codes "of" ∷ bound_text (bound_in spec.bounds f.0.0 t.0.0) ∷ []
    = words_listed 12 ws form.count ∙ both w0 (both w1 (both w2 (both w3 (both w4 (both w5 (both w6 (both w7 (both w8 (both w9 (both w10 (both w11 refl))))))))))) in
    ap (report_line spec) (sym told.report_is)
    ∙ sym (finished_shape (conf_name spec f.0.0) (conf_name spec t.0.0) (decimal told.begin) (decimal e.0) (decimal (e.0 - told.begin)) (bound_text (bound_in spec.bounds f.0.0 t.0.0)))
    ∙ ap (λ (text : List ℕ). text ++ codes "\n") (sym (joined_is ∙ ap (join_with_byte 32) listed))

unfinished_read : (spec : Parts) (frames : ℕ) (line : List ℕ) (ws : List (List ℕ)) (report : Report) → line ≡ join_with_byte 32 ws → word_at ws 0 ≡ codes "reconfiguration" → ReportForm ws →
    word_at ws 3 ≡ codes "-" → word_at ws 7 ≡ codes "-" → unfinished_report spec frames ws ≡ Ok report → report_line spec report ≡ line ++ codes "\n"
unfinished_read spec frames line ws report joined_is w0 form w3 w7 h =
    let f = or_rule_ok UNKNOWN_NAME (conf_named spec (word_at ws 1)) _ report h in
    let told = report_ended ws f.0 None frames (greatest_bound_in spec.bounds f.0.0) report f.2 in
    let w1 : word_at ws 1 ≡ conf_name spec f.0.0 = conf_found spec (word_at ws 1) f.0 f.1 in
    let w2 = form.w2 in
    let w4 = form.w4 in
    let w5 = told.begun in
    let w6 = form.w6 in
    let w8 = form.w8 in
    let w9 = told.took in
    let w10 = form.w10 in
    let w11 = told.bound in
    let listed : ws ≡ codes "reconfiguration" ∷ conf_name spec f.0.0 ∷ codes ">" ∷ codes "-" ∷ codes "begin" ∷ decimal told.begin ∷ codes "end" ∷ codes "-"
    ∷ codes "took" ∷ decimal (frames - told.begin) ∷ codes "of" ∷ bound_text (greatest_bound_in spec.bounds f.0.0) ∷ []
    = words_listed 12 ws form.count ∙ both w0 (both w1 (both w2 (both w3 (both w4 (both w5 (both w6 (both w7 (both w8 (both w9 (both w10 (both w11 refl))))))))))) in
    ap (report_line spec) (sym told.report_is)
    ∙ sym (unfinished_shape (conf_name spec f.0.0) (decimal told.begin) (decimal (frames - told.begin)) (bound_text (greatest_bound_in spec.bounds f.0.0)))
    ∙ ap (λ (text : List ℕ). text ++ codes "\n") (sym (joined_is ∙ ap (join_with_byte 32) listed))

dashes_by : (to end : Bool) (spec : Parts) (frames : ℕ) (line : List ℕ) (ws : List (List ℕ)) (report : Report) → (to ≡ true → word_at ws 3 ≡ codes "-") → (end ≡ true → word_at ws 7 ≡ codes "-") →
    line ≡ join_with_byte 32 ws → word_at ws 0 ≡ codes "reconfiguration" → ReportForm ws →
    cond to (cond end (unfinished_report spec frames ws) (Err NO_FORM)) (cond end (Err NO_FORM) (finished_report spec ws)) ≡ Ok report → report_line spec report ≡ line ++ codes "\n"
dashes_by true true spec frames line ws report to end joined_is w0 form h = unfinished_read spec frames line ws report joined_is w0 form (to refl) (end refl) h
dashes_by true false spec frames line ws report to end joined_is w0 form h = absurd (let e = h in cc)
dashes_by false true spec frames line ws report to end joined_is w0 form h = absurd (let e = h in cc)
dashes_by false false spec frames line ws report to end joined_is w0 form h = finished_read spec line ws report joined_is w0 form h

-- If a line is read as the line of a reconfiguration, it is the printed text of the reconfiguration that is read.
pub report_only : (spec : Parts) (frames : ℕ) (line : List ℕ) (report : Report) → begins line (codes "reconfiguration") ≡ true → report_read spec frames line ≡ Ok report →
    report_line spec report ≡ line ++ codes "\n"
report_only spec frames line report first h =
    let w = or_rule_ok NO_FORM (words_in line) (report_in spec frames) report h in
    let same = words_are line w.0 w.1 in
    let w0 : word_at w.0 0 ≡ codes "reconfiguration" = rw (← same) (is_text (words_of line) 0 (codes "reconfiguration") first) in
    let f = if_ok (is_report_form w.0) _ NO_FORM report w.2 in
    dashes_by (is_word w.0 3 (codes "-")) (is_word w.0 7 (codes "-")) spec frames line w.0 report (is_text w.0 3 (codes "-")) (is_text w.0 7 (codes "-"))
    (line_joined line w.0 w.1) w0 (report_form w.0 f.0) f.1

-- If a line is read as the end line, it is the printed end line.
pub end_only : (frames reports : ℕ) (line : List ℕ) (done : ⊤) → begins line (codes "end") ≡ true → end_read frames reports line ≡ Ok done →
    end_line frames reports ≡ line ++ codes "\n"
end_only frames reports line done first h =
    let w = or_rule_ok NO_FORM (words_in line) (end_in frames reports) done h in
    let ws = w.0 in
    let same = words_are line ws w.1 in
    let w0 : word_at ws 0 ≡ codes "end" = rw (← same) (is_text (words_of line) 0 (codes "end") first) in
    let f = if_ok (is_end_form ws) _ NO_FORM done w.2 in
    let a = and_parts ((length ws == 5) && is_word ws 1 (codes "frames")) (is_word ws 3 (codes "reconfigurations")) f.0 in
    let b = and_parts (length ws == 5) (is_word ws 1 (codes "frames")) a.0 in
    let n = or_rule_ok WRONG_NUMBER (spelled_number (2 ^ 32) (word_at ws 2)) _ done f.1 in
    let r = or_rule_ok WRONG_NUMBER (spelled_number (2 ^ 32) (word_at ws 4)) _ done n.2 in
    let t = if_ok ((n.0 == frames) && (r.0 == reports)) (Ok done) WRONG_COUNT done r.2 in
    let p = and_parts (n.0 == frames) (r.0 == reports) t.0 in
    let w1 : word_at ws 1 ≡ codes "frames" = is_text ws 1 _ b.1 in
    let w2 : word_at ws 2 ≡ decimal frames = (number_spelled (2 ^ 32) n.0 (word_at ws 2) n.1).0 ∙ ap decimal (eqb-true n.0 frames p.0) in
    let w3 : word_at ws 3 ≡ codes "reconfigurations" = is_text ws 3 _ a.1 in
    let w4 : word_at ws 4 ≡ decimal reports = (number_spelled (2 ^ 32) r.0 (word_at ws 4) r.1).0 ∙ ap decimal (eqb-true r.0 reports p.1) in
    let listed : ws ≡ codes "end" ∷ codes "frames" ∷ decimal frames ∷ codes "reconfigurations" ∷ decimal reports ∷ []
    = words_listed 5 ws b.0 ∙ both w0 (both w1 (both w2 (both w3 (both w4 refl)))) in
    sym (end_shape (decimal frames) (decimal reports)) ∙ ap (λ (text : List ℕ). text ++ codes "\n") (sym (line_joined line ws w.1 ∙ ap (join_with_byte 32) listed))
