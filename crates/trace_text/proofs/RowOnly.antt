-- A line that is read as the first line of a row is the printed text of the row that is read.
use Rattle.std.proofs.Common.{ℕ, pos, ◌≡◌, ◌<◌, ◌≤◌, ◌+◌, ◌*◌, ◌∙◌, Bool, true, false, cond, List, [], ◌∷◌, ◌++◌, Some, Ok, Err, length, decimal, replicate, arith, refl, sym, ap, append-nil, length-set}
use Rattle.std.specs.Prelude.{◌==◌, ◌&&◌, ◌/◌, ◌%◌, bytes_eq, codes, slice_index, slice_set}
use Rattle.std.specs.Fmt.{signed_decimal}
use Rattle.std.specs.List.{join_with_byte, list_all}
use Rattle.std.proofs.lemmas.Bool.{and_parts, eqb-true}
use Rattle.std.proofs.lemmas.List.{get_or-set_same, get_or-set_other}
use Rattle.std.proofs.lemmas.List.Splits.{join_with_byte-slice_split}
use Rattle.scram_types.specs.declared.limits.TheConstants.{MAX_FRAMES}
use native.Mathlib.Nat.{mul-add, mul_assoc}
use Rattle.scram_types.specs.Specification.{Parts}
use Rattle.scram_types.specs.declared.rows.Row.{Row}
use Rattle.scram_types.specs.declared.rows.World.{World}
use Rattle.scram_types.specs.declared.orders.Act.TheVariants.{Off}
use Rattle.scram_types.specs.declared.orders.KMode.{KMode}
use Rattle.scram_types.specs.declared.orders.KMode.TheVariants.{Stable, Moving}
use Rattle.scram_types.specs.declared.specification.Factor.{Factor}
use Rattle.scram_types.specs.declared.specification.Proc.{Proc}
use Rattle.trace_text.specs.Lookups.{conf_or_none}
use Rattle.scram_types.specs.Lookups.{value_named, conf_named, value_name, conf_name}
use Rattle.trace_text.specs.Names.{conf_or_dash, joined, names_up, values_named, further_joined}
use Rattle.trace_text.specs.Pieces.{items_of, pieces_of, words_in, words_of, is_word, word_at}
use Rattle.trace_text.specs.RowReading.{are_values, env_names, env_read, is_env_form, is_moving_form, is_proc_name, is_stable_form, moving_row, row_begun, row_end, row_of_words, row_read, stable_row, up_from, up_in, values_from, values_in, with_bit, world_at}
use Rattle.trace_text.specs.Spelling.{spelled_number}
use Rattle.trace_text.specs.Text.{row_line, up_text, values_text}
use Rattle.trace_text.specs.TraceReading.{begins}
use Rattle.trace_text.specs.declared.rule.TheConstants.{NOT_NEXT, NO_FORM, OUT_OF_ORDER, UNKNOWN_NAME, WRONG_NUMBER}
use Rattle.trace_text.proofs.Found.{conf_found, conf_or_dash_found, value_found}
use Rattle.scram_types.proofs.Equality.{same_text}
use Rattle.trace_text.proofs.Inversion.{both, if_ok, is_text, kept_says, line_joined, or_rule_ok, then_some, words_are, words_listed, world_found}
use Rattle.trace_text.proofs.Shapes.{moving_shape, stable_shape}
use Rattle.trace_text.proofs.Spelling.{number_spelled, signed_spelled}
use Rattle.trace_text.proofs.Splitting.{some_piece}

-- Names that are joined by commas are the first name and the further names, each preceded by a comma.
pub further_join : (name : List ℕ) (names : List (List ℕ)) → join_with_byte 44 (name ∷ names) ≡ name ++ further_joined names
further_join name [] = sym (append-nil name)
further_join name (next ∷ names) = ap (λ (rest : List ℕ). name ++ 44 ∷ rest) (further_join next names)

joined_some : (names : List (List ℕ)) → 0 < length names → joined names ≡ join_with_byte 44 names
joined_some [] h = absurd (omega arith)
joined_some (name ∷ names) h = sym (further_join name names)

pub joined_pieces : (list : List ℕ) → joined (pieces_of 44 list) ≡ list
joined_pieces list = joined_some (pieces_of 44 list) (some_piece 44 list) ∙ join_with_byte-slice_split 44 list

items_by : (t : Bool) (list : List ℕ) → (t ≡ true → list ≡ codes "-") → joined (cond t [] (pieces_of 44 list)) ≡ list
items_by true list same = sym (same refl)
items_by false list same = joined_pieces list

pub joined_items : (list : List ℕ) → joined (items_of list) ≡ list
joined_items list = items_by (bytes_eq list (codes "-")) list (same_text list (codes "-"))

-- Reading the values from factor `i` on does not change the values before factor `i`.
values_stay : (factors : List Factor) (names : List (List ℕ)) (i j : ℕ) (vs ws : List ℕ) → j < i → values_from factors names i vs ≡ Some ws →
    slice_index ws j ≡ slice_index vs j
values_stay [] names i j vs ws below h = let e : vs ≡ ws = cc in rw e refl
values_stay (factor ∷ factors) [] i j vs ws below h = absurd (let e = h in cc)
values_stay (factor ∷ factors) (name ∷ names) i j vs ws below h =
    let p = then_some (λ (v : ℕ). values_from factors names (i + 1) (slice_set vs i v)) (value_named factor name) ws h in
    values_stay factors names (i + 1) j (slice_set vs i p.0) ws (omega arith) p.2
    ∙ get_or-set_other vs i j p.0 0 (λ same. omega (arith, same))

values_length : (vs : List ℕ) (i v : ℕ) → length (slice_set vs i v) ≡ length vs
values_length vs i v = length-set vs i v

values_only : (factors : List Factor) (names : List (List ℕ)) (i : ℕ) (vs ws : List ℕ) → i + length factors ≤ length vs → length names ≡ length factors →
    values_from factors names i vs ≡ Some ws → names ≡ values_named factors i ws
values_only [] [] i vs ws room count h = refl
values_only [] (name ∷ names) i vs ws room count h = absurd (omega (arith, count))
values_only (factor ∷ factors) [] i vs ws room count h = absurd (omega (arith, count))
values_only (factor ∷ factors) (name ∷ names) i vs ws room count h =
    let p = then_some (λ (v : ℕ). values_from factors names (i + 1) (slice_set vs i v)) (value_named factor name) ws h in
    let kept : slice_index ws i ≡ p.0 = values_stay factors names (i + 1) i (slice_set vs i p.0) ws (omega arith) p.2 ∙ get_or-set_same vs i p.0 0 (omega (arith, room)) in
    let first : name ≡ value_name factor (slice_index ws i) = rw kept (value_found factor name p.0 p.1) in
    let rest : names ≡ values_named factors (i + 1) ws
    = values_only factors names (i + 1) (slice_set vs i p.0) ws (rw (values_length vs i p.0) (omega (arith, room))) (omega (arith, count)) p.2 in
    rw (← first, ← rest) refl

values_read : (factors : List Factor) (list : List ℕ) (ws : List ℕ) → length factors ≤ 6 → are_values factors list ≡ true → values_in factors list ≡ Some ws →
    list ≡ joined (values_named factors 0 ws)
values_read [] list ws few form h = same_text list (codes "-") form
values_read (factor ∷ factors) list ws few form h =
    sym (joined_pieces list)
    ∙ ap joined (values_only (factor ∷ factors) (pieces_of 44 list) 0 (replicate 6 0) ws (omega (arith, few)) (eqb-true _ _ form) h)

-- `up + bit + 2 * bit * m` equals `up + bit * (1 + 2 * m)`.
twice_more : (bit up m : ℕ) → (up + bit) + (bit * 2) * m ≡ up + bit * (1 + 2 * m)
twice_more bit up m = let a : bit * (1 + 2 * m) ≡ bit * 1 + bit * (2 * m) = mul-add bit 1 (2 * m) in let b : (bit * 2) * m ≡ bit * (2 * m) = mul_assoc bit 2 m in omega (arith, a, b)

twice : (bit up m : ℕ) → up + (bit * 2) * m ≡ up + bit * (2 * m)
twice bit up m = ap (λ (k : ℕ). up + k) (mul_assoc bit 2 m)

abbrev UpOnly : List Proc → List (List ℕ) → ℕ → ℕ → ℕ → Type 0
UpOnly procs names bit up u = (m : ℕ) × (u ≡ up + bit * m) × (names ≡ names_up procs m)

even_names : (proc : Proc) (procs : List Proc) (m : ℕ) → names_up (proc ∷ procs) (2 * m) ≡ names_up procs m
even_names proc procs m =
    let rest : (2 * m) % 2 ≡ 0 = omega arith in
    let half : (2 * m) / 2 ≡ m = omega arith in
    rw (rest, half) refl

odd_names : (proc : Proc) (procs : List Proc) (m : ℕ) → names_up (proc ∷ procs) (1 + 2 * m) ≡ proc.name ∷ names_up procs m
odd_names proc procs m =
    let rest : (1 + 2 * m) % 2 ≡ 1 = omega arith in
    let half : (1 + 2 * m) / 2 ≡ m = omega arith in
    rw (rest, half) refl

up_even : (proc : Proc) (procs : List Proc) (names : List (List ℕ)) (bit up u : ℕ) → UpOnly procs names (bit * 2) up u → UpOnly (proc ∷ procs) names bit up u
up_even proc procs names bit up u p = (2 * p.0, p.1 ∙ twice bit up p.0, p.2 ∙ sym (even_names proc procs p.0))

up_odd : (proc : Proc) (procs : List Proc) (name : List ℕ) (names : List (List ℕ)) (bit up u : ℕ) → proc.name ≡ name → UpOnly procs names (bit * 2) (up + bit) u →
    UpOnly (proc ∷ procs) (name ∷ names) bit up u
up_odd proc procs name names bit up u same p =
    (1 + 2 * p.0, p.1 ∙ twice_more bit up p.0, rw (odd_names proc procs p.0, same, ← p.2) refl)

up_by : (t : Bool) (proc : Proc) (procs : List Proc) (name : List ℕ) (names : List (List ℕ)) (bit up u : ℕ) → (t ≡ true → proc.name ≡ name) →
    ((left : List (List ℕ)) (k : ℕ) → up_from procs left (bit * 2) k ≡ Some u → UpOnly procs left (bit * 2) k u) →
    up_from procs (cond t names (name ∷ names)) (bit * 2) (with_bit t bit up) ≡ Some u → UpOnly (proc ∷ procs) (name ∷ names) bit up u
up_by true proc procs name names bit up u same more h = up_odd proc procs name names bit up u (same refl) (more names (up + bit) h)
up_by false proc procs name names bit up u same more h = up_even proc procs (name ∷ names) bit up u (more (name ∷ names) up h)

up_only : (procs : List Proc) (names : List (List ℕ)) (bit up u : ℕ) → up_from procs names bit up ≡ Some u → UpOnly procs names bit up u
up_only [] [] bit up u h = let e : up ≡ u = cc in (0, omega (arith, e), refl)
up_only [] (name ∷ names) bit up u h = absurd (let e = h in cc)
up_only (proc ∷ procs) [] bit up u h = up_even proc procs [] bit up u (up_only procs [] (bit * 2) up u h)
up_only (proc ∷ procs) (name ∷ names) bit up u h =
    up_by (bytes_eq proc.name name) proc procs name names bit up u (same_text proc.name name) (λ left k. up_only procs left (bit * 2) k u) h

up_read : (procs : List Proc) (list : List ℕ) (u : ℕ) → up_in procs list ≡ Some u → list ≡ joined (names_up procs u)
up_read procs list u h =
    let p = up_only procs (items_of list) 1 0 u h in
    let e : u ≡ p.0 = omega (arith, p.1) in
    sym (joined_items list) ∙ ap joined p.2 ∙ ap (λ (m : ℕ). joined (names_up procs m)) (sym e)

record WorldWords (ws : List (List ℕ)) (at : ℕ) (world : World) : Type 0 where
  alt : word_at ws at ≡ signed_decimal world.alt
  climb : word_at ws (at + 1) ≡ signed_decimal world.climb
  heading : word_at ws (at + 2) ≡ signed_decimal world.heading
  bank : word_at ws (at + 3) ≡ signed_decimal world.bank

world_words : (ws : List (List ℕ)) (at : ℕ) (world : World) → world_at ws at ≡ Some world → WorldWords ws at world
world_words ws at world h = let found = world_found ws at world h in record {
  alt = signed_spelled world.alt _ found.alt;
  climb = signed_spelled world.climb _ found.climb;
  heading = signed_spelled world.heading _ found.heading;
  bank = signed_spelled world.bank _ found.bank;
}

-- The words spell the frame `next`, a world and the processors that are up, and `row` has these parts and no acts.
record RowEnd (spec : Parts) (next : ℕ) (ws : List (List ℕ)) (at : ℕ) (mode : KMode) (values : List ℕ) (row : Row) : Type 0 where
  frame : ℕ
  world : World
  up : ℕ
  spelled : word_at ws 1 ≡ decimal frame
  numbers : WorldWords ws (at + 5) world
  is_next : frame ≡ next
  listed : word_at ws (at + 3) ≡ up_text spec up
  row_is : row_begun frame mode (env_read up values) world ≡ row

row_ended : (spec : Parts) (next : ℕ) (ws : List (List ℕ)) (at : ℕ) (mode : KMode) (values : List ℕ) (row : Row) → row_end spec next ws at mode values ≡ Ok row →
    RowEnd spec next ws at mode values row
row_ended spec next ws at mode values row h =
    let f = or_rule_ok WRONG_NUMBER (spelled_number MAX_FRAMES (word_at ws 1)) _ row h in
    let w = or_rule_ok WRONG_NUMBER (world_at ws (at + 5)) _ row f.2 in
    let n = if_ok (f.0 == next) _ NOT_NEXT row w.2 in
    let u = or_rule_ok OUT_OF_ORDER (up_in spec.procs (word_at ws (at + 3))) _ row n.1 in
    record {
      frame = f.0;
      world = w.0;
      up = u.0;
      spelled = (number_spelled MAX_FRAMES f.0 (word_at ws 1) f.1).0;
      numbers = world_words ws (at + 5) w.0 w.1;
      is_next = eqb-true f.0 next n.0;
      listed = up_read spec.procs (word_at ws (at + 3)) u.0 u.1;
      row_is = let e : row_begun f.0 mode (env_read u.0 values) w.0 ≡ row = cc in e;
    }

-- The line is the text of the row without the line feed. The row has frame `next`, all its acts are `Off`, and all
-- its areas are zeros.
pub record RowRead (spec : Parts) (next : ℕ) (line : List ℕ) (row : Row) : Type 0 where
  pub text : row_line spec row ≡ line ++ codes "\n"
  pub frame : row.frame ≡ next
  pub acts : row.acts ≡ replicate 8 Off
  pub areas : row.areas ≡ replicate 8 (replicate 8 (pos 0))

record EnvForm (spec : Parts) (ws : List (List ℕ)) (at : ℕ) : Type 0 where
  env : word_at ws at ≡ codes "env"
  listed : are_values spec.factors (word_at ws (at + 1)) ≡ true
  up_is : word_at ws (at + 2) ≡ codes "up"
  world_is : word_at ws (at + 4) ≡ codes "world"

env_form : (spec : Parts) (ws : List (List ℕ)) (at : ℕ) → is_env_form spec ws at ≡ true → EnvForm spec ws at
env_form spec ws at h =
    let a = and_parts (is_word ws at (codes "env") && are_values spec.factors (word_at ws (at + 1)) && is_word ws (at + 2) (codes "up")) (is_word ws (at + 4) (codes "world")) h in
    let b = and_parts (is_word ws at (codes "env") && are_values spec.factors (word_at ws (at + 1))) (is_word ws (at + 2) (codes "up")) a.0 in
    let c = and_parts (is_word ws at (codes "env")) (are_values spec.factors (word_at ws (at + 1))) b.0 in
    record { env = is_text ws at _ c.0; listed = c.1; up_is = is_text ws (at + 2) _ b.1; world_is = is_text ws (at + 4) _ a.1 }

env_values : (spec : Parts) (ws : List (List ℕ)) (at : ℕ) (values : List ℕ) → length spec.factors ≤ 6 → EnvForm spec ws at → env_names spec ws at ≡ Some values →
    word_at ws (at + 1) ≡ values_text spec values
env_values spec ws at values few form h =
    let p = kept_says (list_all (is_proc_name spec) (items_of (word_at ws (at + 3)))) (values_in spec.factors (word_at ws (at + 1))) values h in
    values_read spec.factors (word_at ws (at + 1)) values few form.listed p.1

row_told : (spec : Parts) (next frame : ℕ) (line : List ℕ) (mode : KMode) (up : ℕ) (values : List ℕ) (world : World) (row : Row) →
    row_begun frame mode (env_read up values) world ≡ row → frame ≡ next →
    row_line spec (row_begun frame mode (env_read up values) world) ≡ line ++ codes "\n" → RowRead spec next line row
row_told spec next frame line mode up values world row is same text = record {
  text = ap (row_line spec) (sym is) ∙ text;
  frame = ap (λ (r : Row). r.frame) (sym is) ∙ same;
  acts = ap (λ (r : Row). r.acts) (sym is);
  areas = ap (λ (r : Row). r.areas) (sym is);
}

module _ (spec : Parts) (next : ℕ) (line : List ℕ) (ws : List (List ℕ)) (row : Row) (few : length spec.factors ≤ 6) (joined_is : line ≡ join_with_byte 32 ws) (w0 : word_at ws 0 ≡ codes "frame") where
  stable_read : is_stable_form spec ws ≡ true → stable_row spec next ws ≡ Ok row → RowRead spec next line row
  stable_read form h =
      let b = and_parts ((length ws == 13) && is_word ws 2 (codes "stable")) (is_env_form spec ws 4) form in
      let a = and_parts (length ws == 13) (is_word ws 2 (codes "stable")) b.0 in
      let env = env_form spec ws 4 b.1 in
      let c = or_rule_ok UNKNOWN_NAME (conf_named spec (word_at ws 3)) _ row h in
      let v = or_rule_ok UNKNOWN_NAME (env_names spec ws 4) _ row c.2 in
      let told = row_ended spec next ws 4 (Stable c.0) v.0 row v.2 in
      let w1 : word_at ws 1 ≡ decimal told.frame = told.spelled in
      let w2 : word_at ws 2 ≡ codes "stable" = is_text ws 2 (codes "stable") a.1 in
      let w3 : word_at ws 3 ≡ conf_name spec c.0.0 = conf_found spec (word_at ws 3) c.0 c.1 in
      let w4 : word_at ws 4 ≡ codes "env" = env.env in
      let w5 : word_at ws 5 ≡ values_text spec v.0 = env_values spec ws 4 v.0 few env v.1 in
      let w6 : word_at ws 6 ≡ codes "up" = env.up_is in
      let w7 : word_at ws 7 ≡ up_text spec told.up = told.listed in
      let w8 : word_at ws 8 ≡ codes "world" = env.world_is in
      let w9 : word_at ws 9 ≡ signed_decimal told.world.alt = told.numbers.alt in
      let w10 : word_at ws 10 ≡ signed_decimal told.world.climb = told.numbers.climb in
      let w11 : word_at ws 11 ≡ signed_decimal told.world.heading = told.numbers.heading in
      let w12 : word_at ws 12 ≡ signed_decimal told.world.bank = told.numbers.bank in
      let listed : ws ≡ codes "frame" ∷ decimal told.frame ∷ codes "stable" ∷ conf_name spec c.0.0 ∷ codes "env" ∷ values_text spec v.0 ∷ codes "up" ∷ up_text spec told.up ∷ codes "world"
      ∷ signed_decimal told.world.alt ∷ signed_decimal told.world.climb ∷ signed_decimal told.world.heading ∷ signed_decimal told.world.bank ∷ []
      = words_listed 13 ws a.0 ∙ both w0 (both w1 (both w2 (both w3 (both w4 (both w5 (both w6 (both w7 (both w8 (both w9 (both w10 (both w11 (both w12 refl)))))))))))) in
      row_told spec next told.frame line (Stable c.0) told.up v.0 told.world row told.row_is told.is_next
      (sym (stable_shape (decimal told.frame) (conf_name spec c.0.0) (values_text spec v.0) (up_text spec told.up)
      (signed_decimal told.world.alt) (signed_decimal told.world.climb) (signed_decimal told.world.heading) (signed_decimal told.world.bank))
      ∙ ap (λ (text : List ℕ). text ++ codes "\n") (sym (joined_is ∙ ap (join_with_byte 32) listed)))

  moving_read : is_moving_form spec ws ≡ true → moving_row spec next ws ≡ Ok row → RowRead spec next line row
  moving_read form h =
      let b = and_parts ((length ws == 16) && is_word ws 2 (codes "moving")) (is_env_form spec ws 7) form in
      let a = and_parts (length ws == 16) (is_word ws 2 (codes "moving")) b.0 in
      let env = env_form spec ws 7 b.1 in
      let c = or_rule_ok UNKNOWN_NAME (conf_named spec (word_at ws 3)) _ row h in
      let d = or_rule_ok UNKNOWN_NAME (conf_or_none spec (word_at ws 4)) _ row c.2 in
      let e = or_rule_ok UNKNOWN_NAME (conf_named spec (word_at ws 5)) _ row d.2 in
      let v = or_rule_ok UNKNOWN_NAME (env_names spec ws 7) _ row e.2 in
      let s = or_rule_ok WRONG_NUMBER (spelled_number MAX_FRAMES (word_at ws 6)) _ row v.2 in
      let told = row_ended spec next ws 7 (Moving c.0 d.0 e.0 s.0) v.0 row s.2 in
      let w1 : word_at ws 1 ≡ decimal told.frame = told.spelled in
      let w2 : word_at ws 2 ≡ codes "moving" = is_text ws 2 (codes "moving") a.1 in
      let w3 : word_at ws 3 ≡ conf_name spec c.0.0 = conf_found spec (word_at ws 3) c.0 c.1 in
      let w4 : word_at ws 4 ≡ conf_or_dash spec d.0 = conf_or_dash_found spec (word_at ws 4) d.0 d.1 in
      let w5 : word_at ws 5 ≡ conf_name spec e.0.0 = conf_found spec (word_at ws 5) e.0 e.1 in
      let w6 : word_at ws 6 ≡ decimal s.0 = (number_spelled MAX_FRAMES s.0 (word_at ws 6) s.1).0 in
      let w7 : word_at ws 7 ≡ codes "env" = env.env in
      let w8 : word_at ws 8 ≡ values_text spec v.0 = env_values spec ws 7 v.0 few env v.1 in
      let w9 : word_at ws 9 ≡ codes "up" = env.up_is in
      let w10 : word_at ws 10 ≡ up_text spec told.up = told.listed in
      let w11 : word_at ws 11 ≡ codes "world" = env.world_is in
      let w12 : word_at ws 12 ≡ signed_decimal told.world.alt = told.numbers.alt in
      let w13 : word_at ws 13 ≡ signed_decimal told.world.climb = told.numbers.climb in
      let w14 : word_at ws 14 ≡ signed_decimal told.world.heading = told.numbers.heading in
      let w15 : word_at ws 15 ≡ signed_decimal told.world.bank = told.numbers.bank in
      let listed : ws ≡ codes "frame" ∷ decimal told.frame ∷ codes "moving" ∷ conf_name spec c.0.0 ∷ conf_or_dash spec d.0 ∷ conf_name spec e.0.0 ∷ decimal s.0
      ∷ codes "env" ∷ values_text spec v.0 ∷ codes "up" ∷ up_text spec told.up ∷ codes "world"
      ∷ signed_decimal told.world.alt ∷ signed_decimal told.world.climb ∷ signed_decimal told.world.heading ∷ signed_decimal told.world.bank ∷ []
      = words_listed 16 ws a.0 ∙ both w0 (both w1 (both w2 (both w3 (both w4 (both w5 (both w6 (both w7 (both w8 (both w9 (both w10 (both w11 (both w12 (both w13 (both w14 (both w15 refl))))))))))))))) in
      row_told spec next told.frame line (Moving c.0 d.0 e.0 s.0) told.up v.0 told.world row told.row_is told.is_next
      (sym (moving_shape (decimal told.frame) (conf_name spec c.0.0) (conf_or_dash spec d.0) (conf_name spec e.0.0) (decimal s.0) (values_text spec v.0) (up_text spec told.up)
      (signed_decimal told.world.alt) (signed_decimal told.world.climb) (signed_decimal told.world.heading) (signed_decimal told.world.bank))
      ∙ ap (λ (text : List ℕ). text ++ codes "\n") (sym (joined_is ∙ ap (join_with_byte 32) listed)))

forms_by : (s m : Bool) (spec : Parts) (next : ℕ) (line : List ℕ) (ws : List (List ℕ)) (row : Row) →
    (s ≡ true → stable_row spec next ws ≡ Ok row → RowRead spec next line row) → (m ≡ true → moving_row spec next ws ≡ Ok row → RowRead spec next line row) →
    cond s (stable_row spec next ws) (cond m (moving_row spec next ws) (Err NO_FORM)) ≡ Ok row → RowRead spec next line row
forms_by true m spec next line ws row stable moving h = stable refl h
forms_by false true spec next line ws row stable moving h = moving refl h
forms_by false false spec next line ws row stable moving h = absurd (let e = h in cc)

-- If a line is read as the first line of a row, it is the printed text of the row that is read.
pub row_only : (spec : Parts) (next : ℕ) (line : List ℕ) (row : Row) → length spec.factors ≤ 6 → begins line (codes "frame") ≡ true → row_read spec next line ≡ Ok row →
    RowRead spec next line row
row_only spec next line row few first h =
    let w = or_rule_ok NO_FORM (words_in line) (row_of_words spec next) row h in
    let same = words_are line w.0 w.1 in
    let w0 : word_at w.0 0 ≡ codes "frame" = rw (← same) (is_text (words_of line) 0 (codes "frame") first) in
    let text = line_joined line w.0 w.1 in
    forms_by (is_stable_form spec w.0) (is_moving_form spec w.0) spec next line w.0 row
    (λ form read. stable_read spec next line w.0 row few text w0 form read) (λ form read. moving_read spec next line w.0 row few text w0 form read) w.2
