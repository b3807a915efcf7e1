-- If a line of a trace can be read, its contents can be drawn.
use Rattle.std.proofs.Common.{ℕ, ℤ, suc, zero, ◌≡◌, ◌<◌, ◌≤◌, ◌+◌, ◌-◌, ◌^◌, Bool, true, false, cond, List, [], ◌∷◌, Option, Some, None, Ok, Err, length, replicate, arith, refl, ap}
use Rattle.std.specs.Prelude.{◌==◌, ◌&&◌, IsSome, bytes_eq, codes, nat_le, nat_lt, slice_get, slice_index, slice_index_or, slice_set}
use Rattle.std.specs.Fmt.{signed_decimal}
use Rattle.std.specs.Str.Parse.{signed_digits_value}
use Rattle.std.proofs.lemmas.Bool.{and_parts, eqb-false, eqb-true, leb-true, ltb-true}
use Rattle.std.proofs.lemmas.Option.{slice_get_within}
use lib.Signed.{mag}
use Rattle.scram_types.specs.Lookups.{conf_named, number_from, proc_id, proc_named, value_named}
use Rattle.scram_types.specs.Specification.{Each, IsSpec, Parts, bound_in, greatest_bound_in, mode_in}
use Rattle.scram_types.specs.declared.rows.Report.{Report}
use Rattle.scram_types.specs.declared.rows.Row.{Row}
use Rattle.scram_types.specs.declared.rows.World.{World}
use Rattle.scram_types.specs.declared.ids.ConfId.{ConfId}
use Rattle.scram_types.specs.declared.ids.Mode.{Mode}
use Rattle.scram_types.specs.declared.ids.ProcId.{ProcId}
use Rattle.scram_types.specs.declared.limits.TheConstants.{MAX_FRAMES, MAX_PHASE}
use Rattle.scram_types.specs.declared.orders.Act.{Act}
use Rattle.scram_types.specs.declared.orders.Act.TheVariants as act
use Rattle.scram_types.specs.declared.orders.KMode.{KMode}
use Rattle.scram_types.specs.declared.orders.KMode.TheVariants.{Stable, Moving}
use Rattle.scram_types.specs.declared.specification.AppSpec.{AppSpec}
use Rattle.scram_types.specs.declared.specification.Factor.{Factor}
use Rattle.scram_types.specs.declared.specification.ModeSpec.{ModeSpec}
use Rattle.scram_types.specs.declared.specification.Proc.{Proc}
use Rattle.scram_types.proofs.Items.{zeros_everywhere}
use Rattle.scram_types.proofs.Options.{same_some}
use Rattle.trace_text.specs.AppReading.{app_in, app_read, bare_act, bare_line, done, is_bare_form, is_placed_form, phase_act, phase_line, phase_named, placed_line, ran_line}
use Rattle.trace_text.specs.Flights.{IsActShown}
use Rattle.trace_text.specs.Lookups.{app_number, conf_or_none, listed_mode, mode_from}
use Rattle.trace_text.specs.Pieces.{is_word, pieces_of, sides_of, word_at, words_in}
use Rattle.trace_text.specs.Rules.{or_rule}
use Rattle.trace_text.specs.ReportReading.{bound_or_none, finished_report, is_report_form, report_end, report_in, report_read, same_bound, unfinished_report}
use Rattle.trace_text.specs.RowReading.{env_names, env_read, is_moving_form, is_stable_form, moving_row, row_begun, row_end, row_of_words, row_read, stable_row, up_in, values_from, values_in, world_at}
use Rattle.trace_text.specs.Spelling.{signed_from, signed_of, spelled_number}
use Rattle.trace_text.specs.TraceReading.{with_app}
use Rattle.trace_text.specs.declared.app_reading.Done.{Done}
use Rattle.trace_text.specs.declared.app_reading.Phase.{Phase}
use Rattle.trace_text.specs.declared.app_reading.Phase.TheVariants.{Halting, Preparing, Initialising}
use Rattle.trace_text.specs.declared.rule.TheConstants.{NOT_NEXT, NO_FORM, OUT_OF_ORDER, UNKNOWN_NAME, WRONG_COUNT, WRONG_NUMBER}
use Rattle.trace_text.proofs.Found.{place_named}
use Rattle.trace_text.proofs.Inversion.{if_ok, kept_says, map_some, or_rule_ok, some_says, then_some, world_found}
use Rattle.trace_text.proofs.Spelling.{number_spelled}
use Rattle.picture_form.specs.Laws.{IsReportDrawn, IsRowDrawn}

-- Lemmas on the elements of lists.

-- If `Fact` holds for element `i` of a list, it still holds after element `a` is replaced by `x`. If `i` equals `a`,
-- it must also hold for `x`.
set_item : {A : Type 0} (Fact : A → Type 0) (none x : A) (xs : List A) (a i : ℕ) → (i ≡ a → Fact x) → Fact (slice_index_or xs i none)
    → Fact (slice_index_or (slice_set xs a x) i none)
set_item Fact none x [] a i here there = there
set_item Fact none x (y ∷ xs) zero zero here there = here refl
set_item Fact none x (y ∷ xs) zero (suc i) here there = there
set_item Fact none x (y ∷ xs) (suc a) zero here there = there
set_item Fact none x (y ∷ xs) (suc a) (suc i) here there = set_item Fact none x xs a i (λ same. here (ap suc same)) there

-- A number that is read as signed decimal is a signed 64-bit number.

signed_small : (text : List ℕ) (z : ℤ) → signed_of text ≡ Some z → mag z < 2 ^ 63
unfolding signed_of
signed_small text z h =
    let y = signed_digits_value 10 text in
    let p = some_says (nat_lt (mag y) (2 ^ 63) && bytes_eq (signed_decimal y) text) y z h in
    rw (← p.1) (ltb-true _ _ (and_parts _ _ p.0).0)

-- The altitude and the heading are signed 64-bit numbers.
record IsWorldRead (world : World) : Type 0 where
  altitude : mag world.alt < 2 ^ 63
  heading : mag world.heading < 2 ^ 63

world_read : (ws : List (List ℕ)) (at : ℕ) (world : World) → world_at ws at ≡ Some world → IsWorldRead world
world_read ws at world h =
    let found = world_found ws at world h in
    record { altitude = signed_small (word_at ws at) world.alt found.alt; heading = signed_small (word_at ws (at + 2)) world.heading found.heading }

-- The values of factors are bytes.

abbrev AreBytes : List ℕ → Type 0
AreBytes values = (x : ℕ) → slice_index values x < 2 ^ 8

value_byte : (factor : Factor) (name : List ℕ) (v : ℕ) → length factor.values ≤ 4 → value_named factor name ≡ Some v → v < 2 ^ 8
value_byte factor name v few h =
    let p = place_named (λ (text : List ℕ). text) v name factor.values h in
    let below : v < length factor.values = slice_get_within factor.values v p.0 p.1 in
    omega (arith, below, few)

values_bytes : (factors : List Factor) (names : List (List ℕ)) (i : ℕ) (values read : List ℕ) → Each (λ (factor : Factor). length factor.values ≤ 4) factors
    → AreBytes values → values_from factors names i values ≡ Some read → AreBytes read
values_bytes [] names i values read few bytes h = let same : values ≡ read = same_some values read h in rw (← same) bytes
values_bytes (factor ∷ factors) [] i values read few bytes h = absurd (let e = h in cc)
values_bytes (factor ∷ factors) (name ∷ names) i values read few bytes h =
    let p = then_some (λ (v : ℕ). values_from factors names (i + 1) (slice_set values i v)) (value_named factor name) read h in
    let byte = value_byte factor name p.0 (few 0 factor refl) p.1 in
    values_bytes factors names (i + 1) (slice_set values i p.0) read (λ k x there. few (suc k) x there)
    (λ x. set_item (λ (v : ℕ). v < 2 ^ 8) 0 p.0 values i x (λ same. byte) (bytes x)) p.2

zeros_bytes : AreBytes (replicate 6 0)
zeros_bytes x = let zero_there : slice_index (replicate 6 0) x ≡ 0 = zeros_everywhere 6 x in omega (arith, zero_there)

names_bytes : (spec : Parts) (ws : List (List ℕ)) (at : ℕ) (values : List ℕ) → IsSpec spec → env_names spec ws at ≡ Some values → AreBytes values
names_bytes spec ws at values sound h =
    let p = kept_says _ (values_in spec.factors (word_at ws (at + 1))) values h in
    values_bytes spec.factors (pieces_of 44 (word_at ws (at + 1))) 0 (replicate 6 0) values (λ x factor there. (sound.factors x factor there).count.few) zeros_bytes p.1

-- Lemmas that a row whose first line was read can be drawn.

offs_everywhere : (n a : ℕ) → slice_index_or (replicate n act.Off) a act.Off ≡ act.Off
offs_everywhere zero a = refl
offs_everywhere (suc n) zero = refl
offs_everywhere (suc n) (suc a) = offs_everywhere n a

-- The row whose first line was read can be drawn. `next` is the number of the frame that was expected, and is less
-- than `MAX_FRAMES`.
pub record IsRowRead (spec : Parts) (next : ℕ) (row : Row) : Type 0 where
  pub drawn : IsRowDrawn spec row
  pub due : next < MAX_FRAMES

begun_drawn : (spec : Parts) (frame up : ℕ) (mode : KMode) (values : List ℕ) (world : World) → AreBytes values → IsWorldRead world
    → IsRowDrawn spec (row_begun frame mode (env_read up values) world)
begun_drawn spec frame up mode values world bytes read =
    record { values = bytes; acts = λ a app there. rw (offs_everywhere 8 a) tt; altitude = read.altitude; heading = read.heading }

end_row : (spec : Parts) (next : ℕ) (ws : List (List ℕ)) (at : ℕ) (mode : KMode) (values : List ℕ) (row : Row) → AreBytes values
    → row_end spec next ws at mode values ≡ Ok row → IsRowRead spec next row
end_row spec next ws at mode values row bytes h =
    let f = or_rule_ok WRONG_NUMBER (spelled_number MAX_FRAMES (word_at ws 1)) _ row h in
    let w = or_rule_ok WRONG_NUMBER (world_at ws (at + 5)) _ row f.2 in
    let t = if_ok (f.0 == next) _ NOT_NEXT row w.2 in
    let u = or_rule_ok OUT_OF_ORDER (up_in spec.procs (word_at ws (at + 3))) _ row t.1 in
    let same : row_begun f.0 mode (env_read u.0 values) w.0 ≡ row = let e = u.2 in cc in
    let is_next : f.0 ≡ next = eqb-true f.0 next t.0 in
    let below = (number_spelled MAX_FRAMES f.0 (word_at ws 1) f.1).1 in
    record {
      drawn = rw same at (begun_drawn spec f.0 u.0 mode values w.0 bytes (world_read ws (at + 5) w.0 w.1));
      due = rw is_next at below;
    }

stable_read : (spec : Parts) (next : ℕ) (ws : List (List ℕ)) (row : Row) → IsSpec spec → stable_row spec next ws ≡ Ok row → IsRowRead spec next row
stable_read spec next ws row sound h =
    let c = or_rule_ok UNKNOWN_NAME (conf_named spec (word_at ws 3)) _ row h in
    let v = or_rule_ok UNKNOWN_NAME (env_names spec ws 4) _ row c.2 in
    end_row spec next ws 4 (Stable c.0) v.0 row (names_bytes spec ws 4 v.0 sound v.1) v.2

moving_read : (spec : Parts) (next : ℕ) (ws : List (List ℕ)) (row : Row) → IsSpec spec → moving_row spec next ws ≡ Ok row → IsRowRead spec next row
moving_read spec next ws row sound h =
    let f = or_rule_ok UNKNOWN_NAME (conf_named spec (word_at ws 3)) _ row h in
    let g = or_rule_ok UNKNOWN_NAME (conf_or_none spec (word_at ws 4)) _ row f.2 in
    let t = or_rule_ok UNKNOWN_NAME (conf_named spec (word_at ws 5)) _ row g.2 in
    let v = or_rule_ok UNKNOWN_NAME (env_names spec ws 7) _ row t.2 in
    let s = or_rule_ok WRONG_NUMBER (spelled_number MAX_FRAMES (word_at ws 6)) _ row v.2 in
    end_row spec next ws 7 (Moving f.0 g.0 t.0 s.0) v.0 row (names_bytes spec ws 7 v.0 sound v.1) s.2

words_read : (stable moving : Bool) (spec : Parts) (next : ℕ) (ws : List (List ℕ)) (row : Row) → IsSpec spec
    → cond stable (stable_row spec next ws) (cond moving (moving_row spec next ws) (Err NO_FORM)) ≡ Ok row → IsRowRead spec next row
words_read true moving spec next ws row sound h = stable_read spec next ws row sound h
words_read false true spec next ws row sound h = moving_read spec next ws row sound h
words_read false false spec next ws row sound h = absurd (let e = h in cc)

pub line_read : (spec : Parts) (next : ℕ) (line : List ℕ) (row : Row) → IsSpec spec → row_read spec next line ≡ Ok row → IsRowRead spec next row
line_read spec next line row sound h =
    let w = or_rule_ok NO_FORM (words_in line) (row_of_words spec next) row h in
    words_read (is_stable_form spec w.0) (is_moving_form spec w.0) spec next w.0 row sound w.2

-- Lemmas that an application can have the act that its line contains.

proc_there : (spec : Parts) (text : List ℕ) (p : ProcId) → proc_named spec text ≡ Some p → p.0 < length spec.procs
proc_there spec text p h =
    let q = map_some proc_id (number_from (λ (proc : Proc). proc.name) 0 spec.procs text) p h in
    let e : q.0 ≡ p.0 = ap (λ (d : ProcId). d.0) q.2 in
    let named = place_named (λ (proc : Proc). proc.name) q.0 text spec.procs q.1 in
    rw e at (slice_get_within spec.procs q.0 named.0 named.1)

listed_by : (here same : Bool) (kind : ℕ) (text : List ℕ) (listed : ModeSpec) (modes : List ModeSpec) (m : Mode) → (listed.mode.0 == m.0) ≡ same
    → (mode_from kind text modes ≡ Some m → IsSome (mode_in modes m.0)) → cond here (Some listed.mode) (mode_from kind text modes) ≡ Some m
    → IsSome (cond same (Some listed) (mode_in modes m.0))
listed_by here true kind text listed modes m is more h = refl
listed_by true false kind text listed modes m is more h =
    absurd (eqb-false listed.mode.0 m.0 is (ap (λ (mode : Mode). mode.0) (same_some listed.mode m h)))
listed_by false false kind text listed modes m is more h = more h

listed_there : (kind : ℕ) (text : List ℕ) (modes : List ModeSpec) (m : Mode) → mode_from kind text modes ≡ Some m → IsSome (mode_in modes m.0)
listed_there kind text [] m h = absurd (let e = h in cc)
listed_there kind text (listed ∷ modes) m h = listed_by _ (listed.mode.0 == m.0) kind text listed modes m refl (listed_there kind text modes m) h

listed_found : (spec : Parts) (a n : ℕ) (app : AppSpec) (text : List ℕ) (m : Mode) → n ≡ a → slice_get spec.apps a ≡ Some app → listed_mode spec n text ≡ Some m
    → mode_from app.kind.0 text app.modes ≡ Some m
listed_found spec a n app text m same there h = let e : listed_mode spec a text ≡ Some m = rw same at h in rw there at e

-- Application `a` can have the act in `told`, the contents of its line.
abbrev pub IsShownDone : Parts → ℕ → Done → Type 0
IsShownDone spec a told = (app : AppSpec) → slice_get spec.apps a ≡ Some app → IsActShown spec app told.act

ran_shown : (spec : Parts) (a : ℕ) (ws : List (List ℕ)) (told : Done) → ran_line spec a ws ≡ Ok told → IsShownDone spec a told
ran_shown spec a ws told h app there =
    let n = or_rule_ok UNKNOWN_NAME (app_number spec (word_at ws 1)) _ told h in
    let m = or_rule_ok UNKNOWN_NAME (listed_mode spec n.0 (word_at ws 3)) _ told n.2 in
    let p = or_rule_ok UNKNOWN_NAME (proc_named spec (word_at ws 4)) _ told m.2 in
    let z = or_rule_ok WRONG_NUMBER (signed_from 8 6 ws) _ told p.2 in
    let t = if_ok (n.0 == a) _ NOT_NEXT told z.2 in
    let same : done (act.Ran m.0 p.0) z.0 ≡ told = let e = t.1 in cc in
    let at : n.0 ≡ a = eqb-true n.0 a t.0 in
    let found = listed_found spec a n.0 app (word_at ws 3) m.0 at there m.1 in
    let made : IsActShown spec app (act.Ran m.0 p.0) = record { listed = listed_there app.kind.0 (word_at ws 3) app.modes m.0 found; on = proc_there spec (word_at ws 4) p.0 p.1 } in
    rw (← same) made

step_shown : (spec : Parts) (app : AppSpec) (phase : Phase) (k n : ℕ) (proc : ProcId) → k < n → n ≤ MAX_PHASE → proc.0 < length spec.procs
    → IsActShown spec app (phase_act phase k n proc)
step_shown spec app Halting k n proc inside most on = record { inside = inside; most = most; on = on }
step_shown spec app Preparing k n proc inside most on = record { inside = inside; most = most; on = on }
step_shown spec app Initialising k n proc inside most on = record { inside = inside; most = most; on = on }

phase_shown : (spec : Parts) (a : ℕ) (ws : List (List ℕ)) (phase : Phase) (sides : List ℕ × List ℕ) (told : Done) → phase_line spec a ws phase sides ≡ Ok told → IsShownDone spec a told
phase_shown spec a ws phase sides told h app there =
    let m = or_rule_ok UNKNOWN_NAME (app_number spec (word_at ws 1)) _ told h in
    let p = or_rule_ok UNKNOWN_NAME (proc_named spec (word_at ws 4)) _ told m.2 in
    let k = or_rule_ok WRONG_NUMBER (spelled_number 256 sides.0) _ told p.2 in
    let n = or_rule_ok WRONG_NUMBER (spelled_number 256 sides.1) _ told k.2 in
    let z = or_rule_ok WRONG_NUMBER (signed_from 8 6 ws) _ told n.2 in
    let t = if_ok (m.0 == a) _ NOT_NEXT told z.2 in
    let r = if_ok (nat_lt k.0 n.0 && nat_le n.0 MAX_PHASE) _ OUT_OF_ORDER told t.1 in
    let inside = and_parts (nat_lt k.0 n.0) (nat_le n.0 MAX_PHASE) r.0 in
    let same : done (phase_act phase k.0 n.0 p.0) z.0 ≡ told = let e = r.1 in cc in
    rw (← same) (step_shown spec app phase k.0 n.0 p.0 (ltb-true _ _ inside.0) (leb-true _ _ inside.1) (proc_there spec (word_at ws 4) p.0 p.1))

-- Every application can have the act `did`.
abbrev IsBare : Act → Type 0
IsBare did = (spec : Parts) (app : AppSpec) → IsActShown spec app did

bare_by : (held off lost : Bool) (did : Act) → cond held (Some act.Held) (cond off (Some act.Off) (cond lost (Some act.Lost) None)) ≡ Some did → IsBare did
bare_by true off lost did h spec app = let e : act.Held ≡ did = same_some _ did h in rw (← e) tt
bare_by false true lost did h spec app = let e : act.Off ≡ did = same_some _ did h in rw (← e) tt
bare_by false false true did h spec app = let e : act.Lost ≡ did = same_some _ did h in rw (← e) tt
bare_by false false false did h spec app = absurd (let e = h in cc)

bare_shown : (spec : Parts) (a : ℕ) (ws : List (List ℕ)) (did : Act) (told : Done) → IsBare did → bare_line spec a ws did ≡ Ok told → IsShownDone spec a told
bare_shown spec a ws did told bare h app there =
    let m = or_rule_ok UNKNOWN_NAME (app_number spec (word_at ws 1)) _ told h in
    let z = or_rule_ok WRONG_NUMBER (signed_from 8 4 ws) _ told m.2 in
    let t = if_ok (m.0 == a) _ NOT_NEXT told z.2 in
    let same : done did z.0 ≡ told = let e = t.1 in cc in
    rw (← same) (bare spec app)

placed_by : (ran : Bool) (spec : Parts) (a : ℕ) (ws : List (List ℕ)) (told : Done)
    → cond ran (ran_line spec a ws) (or_rule NO_FORM (phase_named (word_at ws 2)) (λ (phase : Phase). or_rule NO_FORM (sides_of (word_at ws 3)) (phase_line spec a ws phase))) ≡ Ok told
    → IsShownDone spec a told
placed_by true spec a ws told h = ran_shown spec a ws told h
placed_by false spec a ws told h =
    let p = or_rule_ok NO_FORM (phase_named (word_at ws 2)) _ told h in
    let s = or_rule_ok NO_FORM (sides_of (word_at ws 3)) _ told p.2 in
    phase_shown spec a ws p.0 s.0 told s.2

app_by : (placed bare : Bool) (spec : Parts) (a : ℕ) (ws : List (List ℕ)) (told : Done)
    → cond placed (placed_line spec a ws) (cond bare (or_rule NO_FORM (bare_act (word_at ws 2)) (bare_line spec a ws)) (Err NO_FORM)) ≡ Ok told → IsShownDone spec a told
app_by true bare spec a ws told h = placed_by (is_word ws 2 (codes "ran")) spec a ws told h
app_by false true spec a ws told h =
    let b = or_rule_ok NO_FORM (bare_act (word_at ws 2)) _ told h in
    bare_shown spec a ws b.0 told (bare_by _ _ _ b.0 b.1) b.2
app_by false false spec a ws told h = absurd (let e = h in cc)

pub app_shown : (spec : Parts) (a : ℕ) (line : List ℕ) (told : Done) → app_read spec a line ≡ Ok told → IsShownDone spec a told
app_shown spec a line told h =
    let w = or_rule_ok NO_FORM (words_in line) (app_in spec a) told h in
    app_by (is_placed_form w.0) (is_bare_form w.0) spec a w.0 told w.2

-- If a row can be drawn and an application can have an act, the row in which the application has this act can be
-- drawn.
pub app_drawn : (spec : Parts) (row : Row) (a : ℕ) (told : Done) → IsRowDrawn spec row → IsShownDone spec a told → IsRowDrawn spec (with_app row a told.act told.area)
app_drawn spec row a told drawn shown = record {
  values = drawn.values;
  acts = λ i app there. set_item (IsActShown spec app) act.Off told.act row.acts a i (λ same. shown app (let e = there in rw same at e)) (drawn.acts i app there);
  altitude = drawn.altitude;
  heading = drawn.heading;
}

-- Lemmas that a reconfiguration whose line was read can be drawn.

ended_drawn : (ws : List (List ℕ)) (from : ConfId) (to : Option ConfId) (end : ℕ) (given : Option ℕ) (report : Report) → end ≤ MAX_FRAMES
    → report_end ws from to end given ≡ Ok report → IsReportDrawn report
ended_drawn ws from to end given report few h =
    let s = or_rule_ok WRONG_NUMBER (spelled_number MAX_FRAMES (word_at ws 5)) _ report h in
    let d = or_rule_ok WRONG_NUMBER (spelled_number (2 ^ 32) (word_at ws 9)) _ report s.2 in
    let b = or_rule_ok WRONG_NUMBER (bound_or_none (word_at ws 11)) _ report d.2 in
    let t = if_ok (nat_le s.0 end && (d.0 == end - s.0) && same_bound b.0 given) _ WRONG_COUNT report b.2 in
    let same : record { from = from; to = to; begin = s.0; end = end } ≡ report = let e = t.1 in cc in
    let begun = (number_spelled MAX_FRAMES s.0 (word_at ws 5) s.1).1 in
    let made : IsReportDrawn (record { from = from; to = to; begin = s.0; end = end }) = record { begin = omega (arith, begun); end = omega (arith, few) } in
    rw (← same) made

finished_drawn : (spec : Parts) (ws : List (List ℕ)) (report : Report) → finished_report spec ws ≡ Ok report → IsReportDrawn report
finished_drawn spec ws report h =
    let f = or_rule_ok UNKNOWN_NAME (conf_named spec (word_at ws 1)) _ report h in
    let t = or_rule_ok UNKNOWN_NAME (conf_named spec (word_at ws 3)) _ report f.2 in
    let e = or_rule_ok WRONG_NUMBER (spelled_number MAX_FRAMES (word_at ws 7)) _ report t.2 in
    let below = (number_spelled MAX_FRAMES e.0 (word_at ws 7) e.1).1 in
    ended_drawn ws f.0 (Some t.0) e.0 (bound_in spec.bounds f.0.0 t.0.0) report (omega (arith, below)) e.2

unfinished_drawn : (spec : Parts) (frames : ℕ) (ws : List (List ℕ)) (report : Report) → frames ≤ MAX_FRAMES → unfinished_report spec frames ws ≡ Ok report → IsReportDrawn report
unfinished_drawn spec frames ws report few h =
    let f = or_rule_ok UNKNOWN_NAME (conf_named spec (word_at ws 1)) _ report h in
    ended_drawn ws f.0 None frames (greatest_bound_in spec.bounds f.0.0) report few f.2

report_by : (to end : Bool) (spec : Parts) (frames : ℕ) (ws : List (List ℕ)) (report : Report) → frames ≤ MAX_FRAMES
    → cond to (cond end (unfinished_report spec frames ws) (Err NO_FORM)) (cond end (Err NO_FORM) (finished_report spec ws)) ≡ Ok report → IsReportDrawn report
report_by true true spec frames ws report few h = unfinished_drawn spec frames ws report few h
report_by true false spec frames ws report few h = absurd (let e = h in cc)
report_by false true spec frames ws report few h = absurd (let e = h in cc)
report_by false false spec frames ws report few h = finished_drawn spec ws report h

pub report_drawn : (spec : Parts) (frames : ℕ) (line : List ℕ) (report : Report) → frames ≤ MAX_FRAMES → report_read spec frames line ≡ Ok report → IsReportDrawn report
report_drawn spec frames line report few h =
    let w = or_rule_ok NO_FORM (words_in line) (report_in spec frames) report h in
    let f = if_ok (is_report_form w.0) _ NO_FORM report w.2 in
    report_by (is_word w.0 3 (codes "-")) (is_word w.0 7 (codes "-")) spec frames w.0 report few f.1
