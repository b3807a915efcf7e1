-- A line that is read as an application's line is the printed text of the act and the area that are read.
use Rattle.std.proofs.Common.{ℕ, ℤ, suc, zero, ◌≡◌, ◌+◌, ◌∙◌, Bool, true, false, cond, List, [], ◌∷◌, ◌++◌, Some, None, Ok, Err, length, decimal, map, refl, sym, ap}
use Rattle.std.specs.Prelude.{◌==◌, ◌&&◌, bytes_eq, codes, nat_le, nat_lt, option_map, slice_get}
use Rattle.std.specs.Fmt.{signed_decimal}
use Rattle.std.specs.List.{join_with_byte}
use Rattle.std.proofs.lemmas.Bool.{and_parts, eqb-true}
use Rattle.std.proofs.lemmas.List.Splits.{join_with_byte-slice_split}
use Rattle.scram_types.specs.Specification.{Parts}
use Rattle.scram_types.specs.declared.ids.ProcId.{ProcId}
use Rattle.scram_types.specs.declared.orders.Act.{Act}
use Rattle.scram_types.specs.declared.orders.Act.TheVariants as act
use Rattle.scram_types.specs.declared.specification.AppSpec.{AppSpec}
use Rattle.trace_text.specs.declared.app_reading.Done.{Done}
use Rattle.trace_text.specs.declared.app_reading.Phase.{Phase}
use Rattle.trace_text.specs.declared.app_reading.Phase.TheVariants.{Halting, Preparing, Initialising}
use Rattle.trace_text.specs.AppReading.{app_in, app_read, bare_act, bare_line, done, is_bare_form, is_placed_form, phase_act, phase_line, phase_named, placed_line, ran_line}
use Rattle.trace_text.specs.Lookups.{app_number, listed_mode}
use Rattle.scram_types.specs.Lookups.{proc_named, proc_name}
use Rattle.kind_table.specs.Names.{mode_text}
use Rattle.trace_text.specs.Pieces.{pieces_of, sides, sides_of, words_in, words_of, is_word, word_at}
use Rattle.trace_text.specs.Rules.{or_rule}
use Rattle.trace_text.specs.Spelling.{signed_from, signed_of, spelled_number}
use Rattle.trace_text.specs.Text.{act_text, app_line}
use Rattle.trace_text.specs.TraceReading.{begins}
use Rattle.trace_text.specs.declared.rule.TheConstants.{NOT_NEXT, NO_FORM, OUT_OF_ORDER, UNKNOWN_NAME, WRONG_NUMBER}
use Rattle.trace_text.proofs.Found.{Named, app_found, mode_found, proc_found}
use Rattle.scram_types.proofs.Equality.{same_text}
use Rattle.trace_text.proofs.Inversion.{both, if_ok, is_text, line_joined, map_some, or_rule_ok, tab, then_some, words_are, words_listed}
use Rattle.trace_text.proofs.Shapes.{bare_shape, phase_shape, ran_shape}
use Rattle.trace_text.proofs.Spelling.{number_spelled, signed_spelled}

-- If `n` words from word `k` on are read as signed numbers, the words are the printed texts of these numbers.
signed_words : (n k : ℕ) (ws : List (List ℕ)) (area : List ℤ) → signed_from n k ws ≡ Some area → tab n k ws ≡ map signed_decimal area
signed_words zero k ws area h = let e : [] ≡ area = cc in rw (← e) refl
signed_words (suc n) k ws area h =
    let p = then_some (λ (z : ℤ). option_map (λ (zs : List ℤ). z ∷ zs) (signed_from n (k + 1) ws)) (signed_of (word_at ws k)) area h in
    let q = map_some (λ (zs : List ℤ). p.0 ∷ zs) (signed_from n (k + 1) ws) area p.2 in
    let first : word_at ws k ≡ signed_decimal p.0 = signed_spelled p.0 (word_at ws k) p.1 in
    let rest : tab n (k + 1) ws ≡ map signed_decimal q.0 = signed_words n (k + 1) ws q.0 q.1 in
    rw (first, rest) (ap (λ (zs : List ℤ). map signed_decimal zs) q.2)

sides_text : (text left right : List ℕ) (pieces : List (List ℕ)) → pieces_of 47 text ≡ pieces → sides pieces ≡ Some (left, right) → text ≡ left ++ 47 ∷ right
sides_text text left right [] is h = absurd (let e = h in cc)
sides_text text left right (a ∷ []) is h = absurd (let e = h in cc)
sides_text text left right (a ∷ b ∷ []) is h =
    let e : (a, b) ≡ (left, right) = cc in
    let one : a ≡ left = ap (λ (p : List ℕ × List ℕ). p.0) e in
    let two : b ≡ right = ap (λ (p : List ℕ × List ℕ). p.1) e in
    sym (join_with_byte-slice_split 47 text) ∙ ap (join_with_byte 47) is ∙ rw (one, two) refl
sides_text text left right (a ∷ b ∷ c ∷ more) is h = absurd (let e = h in cc)

-- Application `a` exists, and the line is the printed text of the act and the area in `told` without the line feed.
pub record AppRead (spec : Parts) (a : ℕ) (line : List ℕ) (told : Done) : Type 0 where
  pub app : AppSpec
  pub there : slice_get spec.apps a ≡ Some app
  pub text : app_line spec app told.act told.area ≡ line ++ codes "\n"

app_told : (spec : Parts) (a : ℕ) (line : List ℕ) (told : Done) (app : AppSpec) (did : Act) (area : List ℤ) → slice_get spec.apps a ≡ Some app →
    done did area ≡ told → app_line spec app did area ≡ line ++ codes "\n" → AppRead spec a line told
app_told spec a line told app did area there is text = record {
  app = app;
  there = there;
  text = ap (λ (d : Done). app_line spec app d.act d.area) (sym is) ∙ text;
}

-- If the number of the application that a line names is `next`, application `next` has that name.
the_next : (spec : Parts) (next a : ℕ) (text : List ℕ) → (a == next) ≡ true → app_number spec text ≡ Some a → Named (λ (app : AppSpec). app.name) spec.apps next text
the_next spec next a text same h = let e : a ≡ next = eqb-true a next same in rw (← e) (app_found spec text a h)

ran_read : (spec : Parts) (next : ℕ) (line : List ℕ) (ws : List (List ℕ)) (told : Done) → line ≡ join_with_byte 32 ws → word_at ws 0 ≡ codes "app" → (length ws == 14) ≡ true →
    word_at ws 5 ≡ codes ":" → word_at ws 2 ≡ codes "ran" → ran_line spec next ws ≡ Ok told → AppRead spec next line told
ran_read spec next line ws told joined_is w0 count w5 w2 h =
    let a = or_rule_ok UNKNOWN_NAME (app_number spec (word_at ws 1)) _ told h in
    let m = or_rule_ok UNKNOWN_NAME (listed_mode spec a.0 (word_at ws 3)) _ told a.2 in
    let p = or_rule_ok UNKNOWN_NAME (proc_named spec (word_at ws 4)) _ told m.2 in
    let v = or_rule_ok WRONG_NUMBER (signed_from 8 6 ws) _ told p.2 in
    let n = if_ok (a.0 == next) (Ok (done (act.Ran m.0 p.0) v.0)) NOT_NEXT told v.2 in
    let named = the_next spec next a.0 (word_at ws 1) n.0 a.1 in
    let same : a.0 ≡ next = eqb-true a.0 next n.0 in
    let there : slice_get spec.apps a.0 ≡ Some named.0 = ap (slice_get spec.apps) same ∙ named.1 in
    let w1 : word_at ws 1 ≡ named.0.name = sym named.2 in
    let w3 : word_at ws 3 ≡ mode_text named.0.kind.0 m.0.0 = mode_found spec a.0 named.0 (word_at ws 3) m.0 there m.1 in
    let w4 : word_at ws 4 ≡ proc_name spec p.0.0 = proc_found spec (word_at ws 4) p.0 p.1 in
    let w6 : tab 8 6 ws ≡ map signed_decimal v.0 = signed_words 8 6 ws v.0 v.1 in
    let listed : ws ≡ codes "app" ∷ named.0.name ∷ codes "ran" ∷ mode_text named.0.kind.0 m.0.0 ∷ proc_name spec p.0.0 ∷ codes ":" ∷ map signed_decimal v.0
    = words_listed 14 ws count ∙ both w0 (both w1 (both w2 (both w3 (both w4 (both w5 w6))))) in
    app_told spec next line told named.0 (act.Ran m.0 p.0) v.0 named.1 (let e : done (act.Ran m.0 p.0) v.0 ≡ told = cc in e)
    (sym (ran_shape named.0.name (mode_text named.0.kind.0 m.0.0) (proc_name spec p.0.0) v.0)
    ∙ ap (λ (text : List ℕ). text ++ codes "\n") (sym (joined_is ∙ ap (join_with_byte 32) listed)))

-- The word that names a phase.
abbrev pub tag_of : Phase → List ℕ
tag_of Halting = codes "halting"
tag_of Preparing = codes "preparing"
tag_of Initialising = codes "initialising"

tag_by : (a b c : Bool) (text : List ℕ) (phase : Phase) → (a ≡ true → text ≡ codes "halting") → (b ≡ true → text ≡ codes "preparing") → (c ≡ true → text ≡ codes "initialising") →
    cond a (Some Halting) (cond b (Some Preparing) (cond c (Some Initialising) None)) ≡ Some phase → text ≡ tag_of phase
tag_by true b c text phase one two three h = let e : Halting ≡ phase = cc in rw (← e) (one refl)
tag_by false true c text phase one two three h = let e : Preparing ≡ phase = cc in rw (← e) (two refl)
tag_by false false true text phase one two three h = let e : Initialising ≡ phase = cc in rw (← e) (three refl)
tag_by false false false text phase one two three h = absurd (let e = h in cc)

phase_tag : (text : List ℕ) (phase : Phase) → phase_named text ≡ Some phase → text ≡ tag_of phase
phase_tag text phase h = tag_by (bytes_eq text (codes "halting")) (bytes_eq text (codes "preparing")) (bytes_eq text (codes "initialising")) text phase
    (same_text text (codes "halting")) (same_text text (codes "preparing")) (same_text text (codes "initialising")) h

pub phase_line_text : (spec : Parts) (app : AppSpec) (phase : Phase) (k n : ℕ) (proc : ProcId) (area : List ℤ) →
    join_with_byte 32 (codes "app" ∷ app.name ∷ tag_of phase ∷ (decimal k ++ 47 ∷ decimal n) ∷ proc_name spec proc.0 ∷ codes ":" ∷ map signed_decimal area) ++ codes "\n"
    ≡ app_line spec app (phase_act phase k n proc) area
phase_line_text spec app Halting k n proc area = phase_shape app.name (codes "halting") (decimal k) (decimal n) (proc_name spec proc.0) area
phase_line_text spec app Preparing k n proc area = phase_shape app.name (codes "preparing") (decimal k) (decimal n) (proc_name spec proc.0) area
phase_line_text spec app Initialising k n proc area = phase_shape app.name (codes "initialising") (decimal k) (decimal n) (proc_name spec proc.0) area

phase_read : (spec : Parts) (next : ℕ) (line : List ℕ) (ws : List (List ℕ)) (told : Done) (phase : Phase) (fraction : List ℕ × List ℕ) → line ≡ join_with_byte 32 ws →
    word_at ws 0 ≡ codes "app" → (length ws == 14) ≡ true → word_at ws 5 ≡ codes ":" → word_at ws 2 ≡ tag_of phase → word_at ws 3 ≡ fraction.0 ++ 47 ∷ fraction.1 →
    phase_line spec next ws phase fraction ≡ Ok told → AppRead spec next line told
phase_read spec next line ws told phase fraction joined_is w0 count w5 w2 w3 h =
    let a = or_rule_ok UNKNOWN_NAME (app_number spec (word_at ws 1)) _ told h in
    let p = or_rule_ok UNKNOWN_NAME (proc_named spec (word_at ws 4)) _ told a.2 in
    let k = or_rule_ok WRONG_NUMBER (spelled_number 256 fraction.0) _ told p.2 in
    let l = or_rule_ok WRONG_NUMBER (spelled_number 256 fraction.1) _ told k.2 in
    let v = or_rule_ok WRONG_NUMBER (signed_from 8 6 ws) _ told l.2 in
    let n = if_ok (a.0 == next) (cond (nat_lt k.0 l.0 && nat_le l.0 16) (Ok (done (phase_act phase k.0 l.0 p.0) v.0)) (Err OUT_OF_ORDER)) NOT_NEXT told v.2 in
    let o = if_ok (nat_lt k.0 l.0 && nat_le l.0 16) (Ok (done (phase_act phase k.0 l.0 p.0) v.0)) OUT_OF_ORDER told n.1 in
    let named = the_next spec next a.0 (word_at ws 1) n.0 a.1 in
    let w1 : word_at ws 1 ≡ named.0.name = sym named.2 in
    let numbers : word_at ws 3 ≡ decimal k.0 ++ 47 ∷ decimal l.0
    = w3 ∙ ap (λ (t : List ℕ). t ++ 47 ∷ fraction.1) (number_spelled 256 k.0 fraction.0 k.1).0 ∙ ap (λ (t : List ℕ). decimal k.0 ++ 47 ∷ t) (number_spelled 256 l.0 fraction.1 l.1).0 in
    let w4 : word_at ws 4 ≡ proc_name spec p.0.0 = proc_found spec (word_at ws 4) p.0 p.1 in
    let w6 : tab 8 6 ws ≡ map signed_decimal v.0 = signed_words 8 6 ws v.0 v.1 in
    let listed : ws ≡ codes "app" ∷ named.0.name ∷ tag_of phase ∷ (decimal k.0 ++ 47 ∷ decimal l.0) ∷ proc_name spec p.0.0 ∷ codes ":" ∷ map signed_decimal v.0
    = words_listed 14 ws count ∙ both w0 (both w1 (both w2 (both numbers (both w4 (both w5 w6))))) in
    app_told spec next line told named.0 (phase_act phase k.0 l.0 p.0) v.0 named.1 (let e : done (phase_act phase k.0 l.0 p.0) v.0 ≡ told = cc in e)
    (sym (phase_line_text spec named.0 phase k.0 l.0 p.0 v.0)
    ∙ ap (λ (text : List ℕ). text ++ codes "\n") (sym (joined_is ∙ ap (join_with_byte 32) listed)))

bare_by : (a b c : Bool) (spec : Parts) (kind : ℕ) (text : List ℕ) (did : Act) → (a ≡ true → text ≡ codes "held") → (b ≡ true → text ≡ codes "off") → (c ≡ true → text ≡ codes "lost") →
    cond a (Some act.Held) (cond b (Some act.Off) (cond c (Some act.Lost) None)) ≡ Some did → text ≡ act_text spec kind did
bare_by true b c spec kind text did one two three h = let e : act.Held ≡ did = cc in rw (← e) (one refl)
bare_by false true c spec kind text did one two three h = let e : act.Off ≡ did = cc in rw (← e) (two refl)
bare_by false false true spec kind text did one two three h = let e : act.Lost ≡ did = cc in rw (← e) (three refl)
bare_by false false false spec kind text did one two three h = absurd (let e = h in cc)

bare_tag : (spec : Parts) (kind : ℕ) (text : List ℕ) (did : Act) → bare_act text ≡ Some did → text ≡ act_text spec kind did
bare_tag spec kind text did h = bare_by (bytes_eq text (codes "held")) (bytes_eq text (codes "off")) (bytes_eq text (codes "lost")) spec kind text did
    (same_text text (codes "held")) (same_text text (codes "off")) (same_text text (codes "lost")) h

bare_read : (spec : Parts) (next : ℕ) (line : List ℕ) (ws : List (List ℕ)) (told : Done) (did : Act) → line ≡ join_with_byte 32 ws → word_at ws 0 ≡ codes "app" → (length ws == 12) ≡ true →
    word_at ws 3 ≡ codes ":" → bare_act (word_at ws 2) ≡ Some did → bare_line spec next ws did ≡ Ok told → AppRead spec next line told
bare_read spec next line ws told did joined_is w0 count w3 tag h =
    let a = or_rule_ok UNKNOWN_NAME (app_number spec (word_at ws 1)) _ told h in
    let v = or_rule_ok WRONG_NUMBER (signed_from 8 4 ws) _ told a.2 in
    let n = if_ok (a.0 == next) (Ok (done did v.0)) NOT_NEXT told v.2 in
    let named = the_next spec next a.0 (word_at ws 1) n.0 a.1 in
    let w1 : word_at ws 1 ≡ named.0.name = sym named.2 in
    let w2 : word_at ws 2 ≡ act_text spec named.0.kind.0 did = bare_tag spec named.0.kind.0 (word_at ws 2) did tag in
    let w4 : tab 8 4 ws ≡ map signed_decimal v.0 = signed_words 8 4 ws v.0 v.1 in
    let listed : ws ≡ codes "app" ∷ named.0.name ∷ act_text spec named.0.kind.0 did ∷ codes ":" ∷ map signed_decimal v.0
    = words_listed 12 ws count ∙ both w0 (both w1 (both w2 (both w3 w4))) in
    app_told spec next line told named.0 did v.0 named.1 (let e : done did v.0 ≡ told = cc in e)
    (sym (bare_shape named.0.name (act_text spec named.0.kind.0 did) v.0)
    ∙ ap (λ (text : List ℕ). text ++ codes "\n") (sym (joined_is ∙ ap (join_with_byte 32) listed)))

placed_by : (t : Bool) (spec : Parts) (next : ℕ) (line : List ℕ) (ws : List (List ℕ)) (told : Done) → (t ≡ true → word_at ws 2 ≡ codes "ran") → line ≡ join_with_byte 32 ws →
    word_at ws 0 ≡ codes "app" → (length ws == 14) ≡ true → word_at ws 5 ≡ codes ":" →
    cond t (ran_line spec next ws) (or_rule NO_FORM (phase_named (word_at ws 2)) (λ (phase : Phase). or_rule NO_FORM (sides_of (word_at ws 3)) (phase_line spec next ws phase))) ≡ Ok told → AppRead spec next line told
placed_by true spec next line ws told ran joined_is w0 count w5 h = ran_read spec next line ws told joined_is w0 count w5 (ran refl) h
placed_by false spec next line ws told ran joined_is w0 count w5 h =
    let p = or_rule_ok NO_FORM (phase_named (word_at ws 2)) (λ (phase : Phase). or_rule NO_FORM (sides_of (word_at ws 3)) (phase_line spec next ws phase)) told h in
    let f = or_rule_ok NO_FORM (sides_of (word_at ws 3)) (phase_line spec next ws p.0) told p.2 in
    phase_read spec next line ws told p.0 f.0 joined_is w0 count w5 (phase_tag (word_at ws 2) p.0 p.1)
    (sides_text (word_at ws 3) f.0.0 f.0.1 (pieces_of 47 (word_at ws 3)) refl f.1) f.2

forms_by : (p b : Bool) (spec : Parts) (next : ℕ) (line : List ℕ) (ws : List (List ℕ)) (told : Done) → (p ≡ true → is_placed_form ws ≡ true) → (b ≡ true → is_bare_form ws ≡ true) →
    line ≡ join_with_byte 32 ws → word_at ws 0 ≡ codes "app" →
    cond p (placed_line spec next ws) (cond b (or_rule NO_FORM (bare_act (word_at ws 2)) (bare_line spec next ws)) (Err NO_FORM)) ≡ Ok told → AppRead spec next line told
forms_by true b spec next line ws told placed bare joined_is w0 h =
    let f = and_parts (length ws == 14) (is_word ws 5 (codes ":")) (placed refl) in
    placed_by (is_word ws 2 (codes "ran")) spec next line ws told (is_text ws 2 (codes "ran")) joined_is w0 f.0 (is_text ws 5 (codes ":") f.1) h
forms_by false true spec next line ws told placed bare joined_is w0 h =
    let f = and_parts (length ws == 12) (is_word ws 3 (codes ":")) (bare refl) in
    let d = or_rule_ok NO_FORM (bare_act (word_at ws 2)) (bare_line spec next ws) told h in
    bare_read spec next line ws told d.0 joined_is w0 f.0 (is_text ws 3 (codes ":") f.1) d.1 d.2
forms_by false false spec next line ws told placed bare joined_is w0 h = absurd (let e = h in cc)

-- If a line is read as the line of an application, it is the printed text of the act and the area that are read.
pub app_only : (spec : Parts) (next : ℕ) (line : List ℕ) (told : Done) → begins line (codes "app") ≡ true → app_read spec next line ≡ Ok told → AppRead spec next line told
app_only spec next line told first h =
    let w = or_rule_ok NO_FORM (words_in line) (app_in spec next) told h in
    let same = words_are line w.0 w.1 in
    let w0 : word_at w.0 0 ≡ codes "app" = rw (← same) (is_text (words_of line) 0 (codes "app") first) in
    forms_by (is_placed_form w.0) (is_bare_form w.0) spec next line w.0 told (λ e. e) (λ e. e) (line_joined line w.0 w.1) w0 w.2
