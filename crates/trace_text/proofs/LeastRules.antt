-- Reading a line of any form reports the first rule that the line breaks.
use Rattle.std.proofs.Common.{ℕ, ℤ, ◌≡◌, ◌+◌, ◌-◌, ◌^◌, ◌∙◌, Bool, true, false, cond, List, [], ◌∷◌, Option, Some, None, Result, Ok, Err, length, refl, sym, ap}
use Rattle.std.specs.Prelude.{◌==◌, ◌&&◌, ◌||◌, ⊤, bytes_eq, codes, is_some, nat_le, nat_lt, option_and_then}
use Rattle.scram_types.specs.declared.limits.TheConstants.{MAX_FRAMES, MAX_PHASE}
use Rattle.scram_types.specs.Specification.{Parts, bound_in, greatest_bound_in}
use Rattle.scram_types.specs.Lookups.{conf_named, proc_named}
use Rattle.scram_types.specs.declared.rows.Report.{Report}
use Rattle.scram_types.specs.declared.rows.Row.{Row}
use Rattle.scram_types.specs.declared.rows.World.{World}
use Rattle.scram_types.specs.declared.ids.ConfId.{ConfId}
use Rattle.scram_types.specs.declared.ids.Mode.{Mode}
use Rattle.scram_types.specs.declared.ids.ProcId.{ProcId}
use Rattle.scram_types.specs.declared.orders.Act.{Act}
use Rattle.scram_types.specs.declared.orders.Act.TheVariants as act
use Rattle.scram_types.specs.declared.orders.KMode.{KMode}
use Rattle.scram_types.specs.declared.orders.KMode.TheVariants.{Stable, Moving}
use Rattle.scram_types.proofs.Equality.{same_text}
use Rattle.trace_text.specs.declared.app_reading.Done.{Done}
use Rattle.trace_text.specs.declared.app_reading.Phase.{Phase}
use Rattle.trace_text.specs.declared.progress.Expected.{Expected}
use Rattle.trace_text.specs.declared.progress.Expected.TheVariants.{Rows, Apps, Reports, Over}
use Rattle.trace_text.specs.declared.rule.TheConstants.{BROKEN_LINE, NOT_NEXT, NO_FORM, OUT_OF_ORDER, OUT_OF_PLACE, UNKNOWN_NAME, WRONG_COUNT, WRONG_NUMBER}
use Rattle.trace_text.specs.AppReading.{app_in, app_read, bare_act, bare_line, done, is_bare_form, is_placed_form, phase_act, phase_line, phase_named, placed_line, ran_line}
use Rattle.trace_text.specs.LineRules.{Form, Words, Ending, Finished, Unfinished, StableRow, MovingRow, RanApp, PhaseApp, BareApp, LeastRuleIsReported, app_due, app_form, asked_form, counts_rightly, end_form, form_by, line_form, has_form, is_due, is_in_order, is_in_place, is_measured, is_open, is_some_and, keeps, knows_names, report_form, row_form, spells_numbers}
use Rattle.trace_text.specs.Lookups.{app_number, conf_or_none, listed_mode}
use Rattle.trace_text.specs.Pieces.{is_word, sides_of, word_at, words_in, words_of, is_filled}
use Rattle.trace_text.specs.ReportReading.{bound_or_none, end_in, end_read, finished_report, is_end_form, is_report_form, report_end, report_in, report_read, same_bound, unfinished_report}
use Rattle.trace_text.specs.RowReading.{env_names, env_read, is_moving_form, is_stable_form, moving_row, row_begun, row_end, row_of_words, row_read, stable_row, up_in, world_at}
use Rattle.std.specs.List.{list_all}
use Rattle.trace_text.specs.Rules.{or_rule}
use Rattle.trace_text.specs.Spelling.{signed_from, spelled_number}
use Rattle.trace_text.specs.TraceReading.{ReadingState, after_line, begins, closing, is_plain, expected_line, with_done, with_end, with_report, with_row}
use Rattle.trace_text.proofs.FirstBroken.{least_from, reports_least, told_by}

-- The last test of a reading reports its rule if the test fails, and no rule if it passes.
last_test : {A : Type 0} (b : Bool) (a : A) (rule : ℕ) → told_by (cond b (Ok a) (Err rule)) ≡ cond b None (Some rule)
last_test true a rule = refl
last_test false a rule = refl

-- Lemmas on the lines of applications.

bare_case : (o : Option ℕ) (v : Option (List ℤ)) (n : ℕ) (told : Act) →
    told_by (or_rule UNKNOWN_NAME o (λ (app : ℕ). or_rule WRONG_NUMBER v (λ (area : List ℤ). cond (app == n) (Ok (done told area)) (Err NOT_NEXT))))
    ≡ least_from 4 (is_some o ∷ is_some v ∷ is_some_and o (λ (app : ℕ). app == n) ∷ true ∷ true ∷ true ∷ [])
bare_case None v n told = refl
bare_case (Some a) None n told = refl
bare_case (Some a) (Some v) n told = last_test (a == n) (done told v) NOT_NEXT

ran_mode : (a : ℕ) (m : Option Mode) (p : Option ProcId) (v : Option (List ℤ)) (n : ℕ) →
    told_by (or_rule UNKNOWN_NAME m (λ (mode : Mode). or_rule UNKNOWN_NAME p (λ (proc : ProcId). or_rule WRONG_NUMBER v (λ (area : List ℤ).
    cond (a == n) (Ok (done (act.Ran mode proc) area)) (Err NOT_NEXT)))))
    ≡ least_from 4 ((is_some m && is_some p) ∷ is_some v ∷ (a == n) ∷ true ∷ true ∷ true ∷ [])
ran_mode a None p v n = refl
ran_mode a (Some m) None v n = refl
ran_mode a (Some m) (Some p) None n = refl
ran_mode a (Some m) (Some p) (Some v) n = last_test (a == n) (done (act.Ran m p) v) NOT_NEXT

ran_case : (o : Option ℕ) (m : ℕ → Option Mode) (p : Option ProcId) (v : Option (List ℤ)) (n : ℕ) →
    told_by (or_rule UNKNOWN_NAME o (λ (app : ℕ). or_rule UNKNOWN_NAME (m app) (λ (mode : Mode). or_rule UNKNOWN_NAME p (λ (proc : ProcId). or_rule WRONG_NUMBER v (λ (area : List ℤ).
    cond (app == n) (Ok (done (act.Ran mode proc) area)) (Err NOT_NEXT))))))
    ≡ least_from 4 ((is_some_and o (λ (app : ℕ). is_some (m app)) && is_some p) ∷ is_some v ∷ is_some_and o (λ (app : ℕ). app == n) ∷ true ∷ true ∷ true ∷ [])
ran_case None m p v n = refl
ran_case (Some a) m p v n = ran_mode a (m a) p v n

phase_last : (b c : Bool) (did : Done) → told_by (cond b (cond c (Ok did) (Err OUT_OF_ORDER)) (Err NOT_NEXT)) ≡ least_from 6 (b ∷ c ∷ true ∷ true ∷ [])
phase_last true true did = refl
phase_last true false did = refl
phase_last false c did = refl

phase_case : (o : Option ℕ) (p : Option ProcId) (k l : Option ℕ) (v : Option (List ℤ)) (n : ℕ) (phase : Phase) →
    told_by (or_rule UNKNOWN_NAME o (λ (app : ℕ). or_rule UNKNOWN_NAME p (λ (proc : ProcId). or_rule WRONG_NUMBER k (λ (i : ℕ). or_rule WRONG_NUMBER l (λ (j : ℕ). or_rule WRONG_NUMBER v (λ (area : List ℤ).
    cond (app == n) (cond (nat_lt i j && nat_le j MAX_PHASE) (Ok (done (phase_act phase i j proc) area)) (Err OUT_OF_ORDER)) (Err NOT_NEXT)))))))
    ≡ least_from 4 ((is_some o && is_some p) ∷ (is_some k && is_some l && is_some v) ∷ is_some_and o (λ (app : ℕ). app == n)
    ∷ is_some_and k (λ (i : ℕ). is_some_and l (λ (j : ℕ). nat_lt i j && nat_le j MAX_PHASE)) ∷ true ∷ true ∷ [])
phase_case None p k l v n phase = refl
phase_case (Some a) None k l v n phase = refl
phase_case (Some a) (Some p) None l v n phase = refl
phase_case (Some a) (Some p) (Some i) None v n phase = refl
phase_case (Some a) (Some p) (Some i) (Some j) None n phase = refl
phase_case (Some a) (Some p) (Some i) (Some j) (Some v) n phase = phase_last (a == n) (nat_lt i j && nat_le j MAX_PHASE) (done (phase_act phase i j p) v)

-- The first of rules 3 to 9 that the words of a line break, given the form of the line, or `None` if they break none
-- of these rules.
abbrev least_of : Parts → ReadingState → Words → Option Form → Option ℕ
least_of spec s words form =
    least_from 3 (is_some form ∷ keeps form (knows_names spec words) ∷ keeps form (spells_numbers words) ∷ keeps form (is_due spec s words)
    ∷ keeps form (is_in_order spec words) ∷ keeps form (counts_rightly spec s words) ∷ true ∷ [])

phases_case : (spec : Parts) (s : ReadingState) (words : Words) (p : Option Phase) (q : Option (List ℕ × List ℕ)) → sides_of (word_at words 3) ≡ q →
    told_by (or_rule NO_FORM p (λ (phase : Phase). or_rule NO_FORM q (phase_line spec (app_due s.expected) words phase)))
    ≡ least_of spec s words (cond (is_some p && is_some q) (Some PhaseApp) None)
phases_case spec s words None q e = refl
phases_case spec s words (Some phase) None e = refl
phases_case spec s words (Some phase) (Some sides) e =
    rw e (phase_case (app_number spec (word_at words 1)) (proc_named spec (word_at words 4)) (spelled_number 256 sides.0) (spelled_number 256 sides.1)
    (signed_from 8 6 words) (app_due s.expected) phase)

placed_case : (spec : Parts) (s : ReadingState) (words : Words) (ran : Bool) →
    told_by (cond ran (ran_line spec (app_due s.expected) words)
    (or_rule NO_FORM (phase_named (word_at words 2)) (λ (phase : Phase). or_rule NO_FORM (sides_of (word_at words 3)) (phase_line spec (app_due s.expected) words phase))))
    ≡ least_of spec s words (cond ran (Some RanApp) (cond (is_some (phase_named (word_at words 2)) && is_some (sides_of (word_at words 3))) (Some PhaseApp) None))
placed_case spec s words true =
    ran_case (app_number spec (word_at words 1)) (λ (app : ℕ). listed_mode spec app (word_at words 3)) (proc_named spec (word_at words 4)) (signed_from 8 6 words) (app_due s.expected)
placed_case spec s words false = phases_case spec s words (phase_named (word_at words 2)) (sides_of (word_at words 3)) refl

bare_act_case : (spec : Parts) (s : ReadingState) (words : Words) (told : Option Act) →
    told_by (or_rule NO_FORM told (bare_line spec (app_due s.expected) words)) ≡ least_of spec s words (cond (is_some told) (Some BareApp) None)
bare_act_case spec s words None = refl
bare_act_case spec s words (Some told) = bare_case (app_number spec (word_at words 1)) (signed_from 8 4 words) (app_due s.expected) told

app_case : (spec : Parts) (s : ReadingState) (words : Words) (placed bare : Bool) →
    told_by (cond placed (placed_line spec (app_due s.expected) words) (cond bare (or_rule NO_FORM (bare_act (word_at words 2)) (bare_line spec (app_due s.expected) words)) (Err NO_FORM)))
    ≡ least_of spec s words (cond placed
    (cond (is_word words 2 (codes "ran")) (Some RanApp) (cond (is_some (phase_named (word_at words 2)) && is_some (sides_of (word_at words 3))) (Some PhaseApp) None))
    (cond (bare && is_some (bare_act (word_at words 2))) (Some BareApp) None))
app_case spec s words true bare = placed_case spec s words (is_word words 2 (codes "ran"))
app_case spec s words false true = bare_act_case spec s words (bare_act (word_at words 2))
app_case spec s words false false = refl

app_least : (spec : Parts) (s : ReadingState) (words : Words) → told_by (app_in spec (app_due s.expected) words) ≡ least_of spec s words (app_form words)
app_least spec s words = app_case spec s words (is_placed_form words) (is_bare_form words)

-- Lemmas on the lines of rows.

row_case : (f : Option ℕ) (w : Option World) (b : ℕ → Bool) (u : Option ℕ) (mode : KMode) (values : List ℕ) →
    told_by (or_rule WRONG_NUMBER f (λ (frame : ℕ). or_rule WRONG_NUMBER w (λ (world : World).
    cond (b frame) (or_rule OUT_OF_ORDER u (λ (up : ℕ). Ok (row_begun frame mode (env_read up values) world))) (Err NOT_NEXT))))
    ≡ least_from 5 ((is_some f && is_some w) ∷ is_some_and f b ∷ is_some u ∷ true ∷ true ∷ [])
row_case None w b u mode values = refl
row_case (Some f) None b u mode values = refl
row_case (Some f) (Some w) b u mode values = row_last (b f) u
  where
    row_last : (t : Bool) (o : Option ℕ) → told_by (cond t (or_rule OUT_OF_ORDER o (λ (up : ℕ). Ok (row_begun f mode (env_read up values) w))) (Err NOT_NEXT)) ≡ least_from 6 (t ∷ is_some o ∷ true ∷ true ∷ [])
    row_last true None = refl
    row_last true (Some up) = refl
    row_last false o = refl

-- For each of rules 6 to 9, whether the words of a row satisfy the rule, given the index `up` of the word that lists
-- the processors.
abbrev row_rest : Parts → ReadingState → Words → ℕ → List Bool
row_rest spec s words up =
    is_some_and (spelled_number MAX_FRAMES (word_at words 1)) (λ (frame : ℕ). frame == length s.rows) ∷ is_some (up_in spec.procs (word_at words up)) ∷ true ∷ true ∷ []

row_end_case : (spec : Parts) (s : ReadingState) (words : Words) (at : ℕ) (mode : KMode) (values : List ℕ) →
    told_by (row_end spec (length s.rows) words at mode values)
    ≡ least_from 5 ((is_some (spelled_number MAX_FRAMES (word_at words 1)) && is_some (world_at words (at + 5)))
    ∷ row_rest spec s words (at + 3))
row_end_case spec s words at mode values =
    row_case (spelled_number MAX_FRAMES (word_at words 1)) (world_at words (at + 5)) (λ (frame : ℕ). frame == length s.rows) (up_in spec.procs (word_at words (at + 3))) mode values

stable_case : (c : Option ConfId) (v : Option (List ℕ)) (read : ConfId → List ℕ → Result Row ℕ) (more : List Bool) →
    ((conf : ConfId) (values : List ℕ) → told_by (read conf values) ≡ least_from 5 more) →
    told_by (or_rule UNKNOWN_NAME c (λ (conf : ConfId). or_rule UNKNOWN_NAME v (λ (values : List ℕ). read conf values))) ≡ least_from 4 ((is_some c && is_some v) ∷ more)
stable_case None v read more rest = refl
stable_case (Some c) None read more rest = refl
stable_case (Some c) (Some v) read more rest = rest c v

moving_case : (c : Option ConfId) (h : Option (Option ConfId)) (t : Option ConfId) (v : Option (List ℕ)) (since : Option ℕ) (f w : Bool)
    (read : ConfId → Option ConfId → ConfId → List ℕ → ℕ → Result Row ℕ) (more : List Bool) →
    ((from : ConfId) (halting : Option ConfId) (to : ConfId) (values : List ℕ) (begun : ℕ) → told_by (read from halting to values begun) ≡ least_from 5 ((f && w) ∷ more)) →
    told_by (or_rule UNKNOWN_NAME c (λ (from : ConfId). or_rule UNKNOWN_NAME h (λ (halting : Option ConfId). or_rule UNKNOWN_NAME t (λ (to : ConfId). or_rule UNKNOWN_NAME v (λ (values : List ℕ).
    or_rule WRONG_NUMBER since (λ (begun : ℕ). read from halting to values begun))))))
    ≡ least_from 4 ((is_some c && is_some h && is_some t && is_some v) ∷ (is_some since && f && w) ∷ more)
moving_case None h t v since f w read more rest = refl
moving_case (Some c) None t v since f w read more rest = refl
moving_case (Some c) (Some h) None v since f w read more rest = refl
moving_case (Some c) (Some h) (Some t) None since f w read more rest = refl
moving_case (Some c) (Some h) (Some t) (Some v) None f w read more rest = refl
moving_case (Some c) (Some h) (Some t) (Some v) (Some since) f w read more rest = rest c h t v since

row_forms : (spec : Parts) (s : ReadingState) (words : Words) (stable moving : Bool) →
    told_by (cond stable (stable_row spec (length s.rows) words) (cond moving (moving_row spec (length s.rows) words) (Err NO_FORM)))
    ≡ least_of spec s words (cond stable (Some StableRow) (cond moving (Some MovingRow) None))
row_forms spec s words true moving =
    stable_case (conf_named spec (word_at words 3)) (env_names spec words 4) (λ (conf : ConfId) (values : List ℕ). row_end spec (length s.rows) words 4 (Stable conf) values)
    ((is_some (spelled_number MAX_FRAMES (word_at words 1)) && is_some (world_at words 9)) ∷ row_rest spec s words 7)
    (λ conf values. row_end_case spec s words 4 (Stable conf) values)
row_forms spec s words false true =
    moving_case (conf_named spec (word_at words 3)) (conf_or_none spec (word_at words 4)) (conf_named spec (word_at words 5)) (env_names spec words 7) (spelled_number MAX_FRAMES (word_at words 6))
    (is_some (spelled_number MAX_FRAMES (word_at words 1))) (is_some (world_at words 12))
    (λ (from : ConfId) (halting : Option ConfId) (to : ConfId) (values : List ℕ) (begun : ℕ). row_end spec (length s.rows) words 7 (Moving from halting to begun) values)
    (row_rest spec s words 10)
    (λ from halting to values begun. row_end_case spec s words 7 (Moving from halting to begun) values)
row_forms spec s words false false = refl

row_least : (spec : Parts) (s : ReadingState) (words : Words) → told_by (row_of_words spec (length s.rows) words) ≡ least_of spec s words (row_form spec words)
row_least spec s words = row_forms spec s words (is_stable_form spec words) (is_moving_form spec words)

-- Lemmas on the lines of reconfigurations.

measured_case : (b t : Option ℕ) (g : Option (Option ℕ)) (right : ℕ → ℕ → Option ℕ → Bool) (report : ℕ → Report) →
    told_by (or_rule WRONG_NUMBER b (λ (begin : ℕ). or_rule WRONG_NUMBER t (λ (took : ℕ). or_rule WRONG_NUMBER g (λ (bound : Option ℕ).
    cond (right begin took bound) (Ok (report begin)) (Err WRONG_COUNT)))))
    ≡ least_from 5 ((is_some b && is_some t && is_some g) ∷ true ∷ true
    ∷ is_some_and b (λ (begin : ℕ). is_some_and t (λ (took : ℕ). is_some_and g (λ (bound : Option ℕ). right begin took bound))) ∷ true ∷ [])
measured_case None t g right report = refl
measured_case (Some b) None g right report = refl
measured_case (Some b) (Some t) None right report = refl
measured_case (Some b) (Some t) (Some g) right report = last_test (right b t g) (report b) WRONG_COUNT

measured : (words : Words) (from : ConfId) (to : Option ConfId) (end : ℕ) (given : Option ℕ) →
    told_by (report_end words from to end given)
    ≡ least_from 5 ((is_some (spelled_number MAX_FRAMES (word_at words 5)) && is_some (spelled_number (2 ^ 32) (word_at words 9)) && is_some (bound_or_none (word_at words 11)))
    ∷ true ∷ true ∷ is_measured words end given ∷ true ∷ [])
measured words from to end given =
    measured_case (spelled_number MAX_FRAMES (word_at words 5)) (spelled_number (2 ^ 32) (word_at words 9)) (bound_or_none (word_at words 11))
    (λ (begin : ℕ) (took : ℕ) (bound : Option ℕ). nat_le begin end && (took == end - begin) && same_bound bound given)
    (λ (begin : ℕ). record { from = from; to = to; begin = begin; end = end })

finished_case : (f t : Option ConfId) (e : Option ℕ) (a b c : Bool) (right : ConfId → ConfId → ℕ → Bool) (read : ConfId → ConfId → ℕ → Result Report ℕ) →
    ((from to : ConfId) (end : ℕ) → told_by (read from to end) ≡ least_from 5 ((a && b && c) ∷ true ∷ true ∷ right from to end ∷ true ∷ [])) →
    told_by (or_rule UNKNOWN_NAME f (λ (from : ConfId). or_rule UNKNOWN_NAME t (λ (to : ConfId). or_rule WRONG_NUMBER e (λ (end : ℕ). read from to end))))
    ≡ least_from 4 ((is_some f && is_some t) ∷ (is_some e && a && b && c) ∷ true ∷ true
    ∷ is_some_and f (λ (from : ConfId). is_some_and t (λ (to : ConfId). is_some_and e (λ (end : ℕ). right from to end))) ∷ true ∷ [])
finished_case None t e a b c right read rest = refl
finished_case (Some f) None e a b c right read rest = refl
finished_case (Some f) (Some t) None a b c right read rest = refl
finished_case (Some f) (Some t) (Some e) a b c right read rest = rest f t e

unfinished_case : (f : Option ConfId) (spelled : Bool) (right : ConfId → Bool) (read : ConfId → Result Report ℕ) →
    ((from : ConfId) → told_by (read from) ≡ least_from 5 (spelled ∷ true ∷ true ∷ right from ∷ true ∷ [])) →
    told_by (or_rule UNKNOWN_NAME f (λ (from : ConfId). read from)) ≡ least_from 4 (is_some f ∷ spelled ∷ true ∷ true ∷ is_some_and f right ∷ true ∷ [])
unfinished_case None spelled right read rest = refl
unfinished_case (Some f) spelled right read rest = rest f

finished_least : (spec : Parts) (s : ReadingState) (words : Words) → told_by (finished_report spec words) ≡ least_of spec s words (Some Finished)
finished_least spec s words =
    finished_case (conf_named spec (word_at words 1)) (conf_named spec (word_at words 3)) (spelled_number MAX_FRAMES (word_at words 7))
    (is_some (spelled_number MAX_FRAMES (word_at words 5))) (is_some (spelled_number (2 ^ 32) (word_at words 9))) (is_some (bound_or_none (word_at words 11)))
    (λ (from : ConfId) (to : ConfId) (end : ℕ). is_measured words end (bound_in spec.bounds from.0 to.0))
    (λ (from : ConfId) (to : ConfId) (end : ℕ). report_end words from (Some to) end (bound_in spec.bounds from.0 to.0))
    (λ from to end. measured words from (Some to) end (bound_in spec.bounds from.0 to.0))

unfinished_least : (spec : Parts) (s : ReadingState) (words : Words) → told_by (unfinished_report spec (length s.rows) words) ≡ least_of spec s words (Some Unfinished)
unfinished_least spec s words =
    unfinished_case (conf_named spec (word_at words 1))
    (is_some (spelled_number MAX_FRAMES (word_at words 5)) && is_some (spelled_number (2 ^ 32) (word_at words 9)) && is_some (bound_or_none (word_at words 11)))
    (λ (from : ConfId). is_measured words (length s.rows) (greatest_bound_in spec.bounds from.0))
    (λ (from : ConfId). report_end words from None (length s.rows) (greatest_bound_in spec.bounds from.0))
    (λ from. measured words from None (length s.rows) (greatest_bound_in spec.bounds from.0))

report_forms : (spec : Parts) (s : ReadingState) (words : Words) (form to end : Bool) →
    told_by (cond form (cond to (cond end (unfinished_report spec (length s.rows) words) (Err NO_FORM)) (cond end (Err NO_FORM) (finished_report spec words))) (Err NO_FORM))
    ≡ least_of spec s words (cond form (cond to (cond end (Some Unfinished) None) (cond end None (Some Finished))) None)
report_forms spec s words true true true = unfinished_least spec s words
report_forms spec s words true true false = refl
report_forms spec s words true false true = refl
report_forms spec s words true false false = finished_least spec s words
report_forms spec s words false to end = refl

report_least : (spec : Parts) (s : ReadingState) (words : Words) → told_by (report_in spec (length s.rows) words) ≡ least_of spec s words (report_form words)
report_least spec s words = report_forms spec s words (is_report_form words) (is_word words 3 (codes "-")) (is_word words 7 (codes "-"))

-- Lemmas on the end line.

abbrev ended : Result ⊤ ℕ
ended = Ok tt

end_case : (f r : Option ℕ) (right : ℕ → ℕ → Bool) →
    told_by (or_rule WRONG_NUMBER f (λ (frames : ℕ). or_rule WRONG_NUMBER r (λ (reports : ℕ). cond (right frames reports) ended (Err WRONG_COUNT))))
    ≡ least_from 5 ((is_some f && is_some r) ∷ true ∷ true ∷ is_some_and f (λ (frames : ℕ). is_some_and r (λ (reports : ℕ). right frames reports)) ∷ true ∷ [])
end_case None r right = refl
end_case (Some f) None right = refl
end_case (Some f) (Some r) right = last_test (right f r) tt WRONG_COUNT

end_forms : (spec : Parts) (s : ReadingState) (words : Words) (form : Bool) →
    told_by (cond form (or_rule WRONG_NUMBER (spelled_number (2 ^ 32) (word_at words 2)) (λ (f : ℕ). or_rule WRONG_NUMBER (spelled_number (2 ^ 32) (word_at words 4)) (λ (r : ℕ).
    cond ((f == length s.rows) && (r == length s.reports)) ended (Err WRONG_COUNT)))) (Err NO_FORM))
    ≡ least_of spec s words (cond form (Some Ending) None)
end_forms spec s words true =
    end_case (spelled_number (2 ^ 32) (word_at words 2)) (spelled_number (2 ^ 32) (word_at words 4)) (λ (f : ℕ) (r : ℕ). (f == length s.rows) && (r == length s.reports))
end_forms spec s words false = refl

end_least : (spec : Parts) (s : ReadingState) (words : Words) → told_by (end_in (length s.rows) (length s.reports) words) ≡ least_of spec s words (end_form words)
end_least spec s words = end_forms spec s words (is_end_form words)

-- Lemmas on the words of a line.

split_case : {A : Type 0} (spec : Parts) (s : ReadingState) (words : Words) (fit : Bool) (read : Words → Result A ℕ) (form : Words → Option Form) →
    told_by (read words) ≡ least_of spec s words (form words) →
    told_by (or_rule NO_FORM (cond fit (Some words) None) read) ≡ least_of spec s words (option_and_then form (cond fit (Some words) None))
split_case spec s words true read form h = h
split_case spec s words false read form h = refl

line_least : {A : Type 0} (spec : Parts) (s : ReadingState) (line : List ℕ) (read : Words → Result A ℕ) → told_by (read (words_of line)) ≡ least_of spec s (words_of line) (form_by spec line (words_of line)) →
    told_by (or_rule NO_FORM (words_in line) read) ≡ least_of spec s (words_of line) (line_form spec line)
line_least spec s line read h =
    split_case spec s (words_of line) (nat_le (length (words_of line)) 16 && list_all is_filled (words_of line)) read (form_by spec line) h

-- If a word is `one`, and `one` is not `other`, the word is not `other`.
other_word : (word one other : List ℕ) → bytes_eq word one ≡ true → bytes_eq one other ≡ false → bytes_eq word other ≡ false
other_word word one other same differ = rw (same_text word one same) differ

row_formed : (spec : Parts) (line : List ℕ) (words : Words) → begins line (codes "frame") ≡ true → row_form spec words ≡ form_by spec line words
row_formed spec line words first = rw first refl

app_formed : (spec : Parts) (line : List ℕ) (words : Words) → begins line (codes "app") ≡ true → app_form words ≡ form_by spec line words
app_formed spec line words first =
    let a : begins line (codes "frame") ≡ false = other_word (word_at (words_of line) 0) (codes "app") (codes "frame") first refl in
    rw (a, first) refl

report_formed : (spec : Parts) (line : List ℕ) (words : Words) → begins line (codes "reconfiguration") ≡ true → report_form words ≡ form_by spec line words
report_formed spec line words first =
    let a : begins line (codes "frame") ≡ false = other_word (word_at (words_of line) 0) (codes "reconfiguration") (codes "frame") first refl in
    let b : begins line (codes "app") ≡ false = other_word (word_at (words_of line) 0) (codes "reconfiguration") (codes "app") first refl in
    rw (a, b, first) refl

end_formed : (spec : Parts) (line : List ℕ) (words : Words) → begins line (codes "end") ≡ true → end_form words ≡ form_by spec line words
end_formed spec line words first =
    let a : begins line (codes "frame") ≡ false = other_word (word_at (words_of line) 0) (codes "end") (codes "frame") first refl in
    let b : begins line (codes "app") ≡ false = other_word (word_at (words_of line) 0) (codes "end") (codes "app") first refl in
    let c : begins line (codes "reconfiguration") ≡ false = other_word (word_at (words_of line) 0) (codes "end") (codes "reconfiguration") first refl in
    rw (a, b, c) refl

-- Adding what a line contains to the state does not change the rule that is reported.

row_told : (s : ReadingState) (read : Result Row ℕ) → told_by (with_row s read) ≡ told_by read
row_told s (Ok row) = refl
row_told s (Err rule) = refl

app_told : (spec : Parts) (s : ReadingState) (a : ℕ) (row : Row) (read : Result Done ℕ) → told_by (with_done spec s a row read) ≡ told_by read
app_told spec s a row (Ok done) = refl
app_told spec s a row (Err rule) = refl

report_told : (s : ReadingState) (read : Result Report ℕ) → told_by (with_report s read) ≡ told_by read
report_told s (Ok report) = refl
report_told s (Err rule) = refl

end_told : (s : ReadingState) (read : Result ⊤ ℕ) → told_by (with_end s read) ≡ told_by read
end_told s (Ok done) = refl
end_told s (Err rule) = refl

row_line_least : (spec : Parts) (s : ReadingState) (line : List ℕ) → begins line (codes "frame") ≡ true →
    told_by (with_row s (row_read spec (length s.rows) line)) ≡ least_of spec s (words_of line) (line_form spec line)
row_line_least spec s line first =
    row_told s (row_read spec (length s.rows) line)
    ∙ line_least spec s line (row_of_words spec (length s.rows)) (row_least spec s (words_of line) ∙ ap (least_of spec s (words_of line)) (row_formed spec line (words_of line) first))

app_line_least : (spec : Parts) (s : ReadingState) (a : ℕ) (row : Row) (line : List ℕ) → app_due s.expected ≡ a → begins line (codes "app") ≡ true →
    told_by (with_done spec s a row (app_read spec a line)) ≡ least_of spec s (words_of line) (line_form spec line)
app_line_least spec s a row line due first =
    app_told spec s a row (app_read spec a line)
    ∙ ap (λ (n : ℕ). told_by (app_read spec n line)) (sym due)
    ∙ line_least spec s line (app_in spec (app_due s.expected)) (app_least spec s (words_of line) ∙ ap (least_of spec s (words_of line)) (app_formed spec line (words_of line) first))

report_line_least : (spec : Parts) (s : ReadingState) (line : List ℕ) → begins line (codes "reconfiguration") ≡ true →
    told_by (with_report s (report_read spec (length s.rows) line)) ≡ least_of spec s (words_of line) (line_form spec line)
report_line_least spec s line first =
    report_told s (report_read spec (length s.rows) line)
    ∙ line_least spec s line (report_in spec (length s.rows)) (report_least spec s (words_of line) ∙ ap (least_of spec s (words_of line)) (report_formed spec line (words_of line) first))

end_line_least : (spec : Parts) (s : ReadingState) (line : List ℕ) → begins line (codes "end") ≡ true →
    told_by (with_end s (end_read (length s.rows) (length s.reports) line)) ≡ least_of spec s (words_of line) (line_form spec line)
end_line_least spec s line first =
    end_told s (end_read (length s.rows) (length s.reports) line)
    ∙ line_least spec s line (end_in (length s.rows) (length s.reports)) (end_least spec s (words_of line) ∙ ap (least_of spec s (words_of line)) (end_formed spec line (words_of line) first))

-- The first of rules 2 to 9 that a line breaks, or `None` if it breaks none of these rules. `placed` is whether the
-- line satisfies rule 2.
abbrev placed_least : Parts → ReadingState → List ℕ → Bool → Option ℕ
placed_least spec s line placed = cond placed (least_of spec s (words_of line) (line_form spec line)) (Some OUT_OF_PLACE)

closing_case : (spec : Parts) (s : ReadingState) (line : List ℕ) (report end : Bool) → begins line (codes "reconfiguration") ≡ report → begins line (codes "end") ≡ end →
    told_by (cond report (with_report s (report_read spec (length s.rows) line)) (cond end (with_end s (end_read (length s.rows) (length s.reports) line)) (Err OUT_OF_PLACE)))
    ≡ placed_least spec s line (report || end)
closing_case spec s line true end first second = report_line_least spec s line first
closing_case spec s line false true first second = end_line_least spec s line second
closing_case spec s line false false first second = refl

open_case : (spec : Parts) (s : ReadingState) (line : List ℕ) (frame : Bool) → begins line (codes "frame") ≡ frame →
    told_by (cond frame (with_row s (row_read spec (length s.rows) line)) (closing spec s line))
    ≡ placed_least spec s line (frame || begins line (codes "reconfiguration") || begins line (codes "end"))
open_case spec s line true first = row_line_least spec s line first
open_case spec s line false first = closing_case spec s line (begins line (codes "reconfiguration")) (begins line (codes "end")) refl refl

due_case : (spec : Parts) (s : ReadingState) (a : ℕ) (row : Row) (line : List ℕ) (app : Bool) → app_due s.expected ≡ a → begins line (codes "app") ≡ app →
    told_by (cond app (with_done spec s a row (app_read spec a line)) (Err OUT_OF_PLACE)) ≡ placed_least spec s line app
due_case spec s a row line true due first = app_line_least spec s a row line due first
due_case spec s a row line false due first = refl

-- For each of rules 2 to 9, whether a line satisfies the rule.
abbrev kept_after : Parts → ReadingState → Expected → List ℕ → List Bool
kept_after spec s expected line =
    is_in_place expected line ∷ has_form spec expected line ∷ keeps (asked_form spec expected line) (knows_names spec (words_of line))
    ∷ keeps (asked_form spec expected line) (spells_numbers (words_of line)) ∷ keeps (asked_form spec expected line) (is_due spec s (words_of line))
    ∷ keeps (asked_form spec expected line) (is_in_order spec (words_of line)) ∷ keeps (asked_form spec expected line) (counts_rightly spec s (words_of line))
    ∷ is_open expected ∷ []

expected_case : (spec : Parts) (s : ReadingState) (line : List ℕ) (expected : Expected) → s.expected ≡ expected →
    told_by (expected_line spec s expected line) ≡ least_from 2 (kept_after spec s expected line)
expected_case spec s line Rows is = open_case spec s line (begins line (codes "frame")) refl
expected_case spec s line (Apps a row) is = due_case spec s a row line (begins line (codes "app")) (ap app_due is) refl
expected_case spec s line Reports is = closing_case spec s line (begins line (codes "reconfiguration")) (begins line (codes "end")) refl refl
expected_case spec s line Over is = refl

plain_case : (plain : Bool) (read : Result ReadingState ℕ) (more : List Bool) → told_by read ≡ least_from 2 more → told_by (cond plain read (Err BROKEN_LINE)) ≡ least_from 1 (plain ∷ more)
plain_case true read more h = h
plain_case false read more h = refl

pub least_rule : LeastRuleIsReported
least_rule spec s line =
    reports_least 1 (is_plain line ∷ kept_after spec s s.expected line) (after_line spec s line)
    (plain_case (is_plain line) (expected_line spec s s.expected line) (kept_after spec s s.expected line) (expected_case spec s line s.expected refl))
