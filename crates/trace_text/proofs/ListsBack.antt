-- The lists of names in a row's line are read back: the values of the factors, and the processors that are up.
use Rattle.std.proofs.Common.{ℕ, suc, zero, ◌≡◌, ◌<◌, ◌≤◌, ◌+◌, ◌*◌, ◌^◌, ◌∙◌, Bool, true, false, cond, List, [], ◌∷◌, ◌++◌, Some, length, replicate, arith, refl, sym, ap, subst, length-append, length-set}
use mathlib.Core.Logic.{inl, inr}
use Rattle.std.specs.Prelude.{◌==◌, ◌/◌, ◌%◌, bytes_eq, codes, slice_get, slice_index, slice_set}
use Rattle.std.specs.List.{join_with_byte, list_all}
use Rattle.std.proofs.lemmas.Bool.{and_from, and_parts, cases_eq, cases_lt, eq-eqb, eqb-false, eqb-true, lt-ltb}
use Rattle.std.proofs.lemmas.List.{ext_get_or, get_or-set_other, get_or-set_same}
use Rattle.std.proofs.lemmas.List.Folds.{list_all-append}
use Rattle.std.proofs.lemmas.Slice.Eq.{bytes_eq-Decides}
use native.Mathlib.Nat.{mul-add, mul_assoc}
use Rattle.scram_types.specs.Specification.{AreSpelled, Each, IsSpec, NamesDiffer, Parts}
use Rattle.scram_types.specs.Lookups.{value_name}
use Rattle.scram_types.specs.Names.{is_name}
use Rattle.scram_types.specs.declared.rows.Env.{Env}
use Rattle.scram_types.specs.declared.specification.Factor.{Factor}
use Rattle.scram_types.specs.declared.specification.Proc.{Proc}
use Rattle.scram_types.proofs.Booleans.{not_true}
use Rattle.scram_types.proofs.Equality.{same_text}
use Rattle.trace_text.specs.Flights.{IsEnvShown}
use Rattle.trace_text.specs.Names.{further_joined, joined, names_up, values_named}
use Rattle.trace_text.specs.Pieces.{is_filled, items_of, pieces_of}
use Rattle.trace_text.specs.RowReading.{are_values, is_next, is_proc_name, names_left, up_from, up_in, values_from, values_in}
use Rattle.trace_text.specs.Text.{up_text, values_text}
use Rattle.trace_text.proofs.NamesBack.{NameBack, found_at, name_back}
use Rattle.trace_text.proofs.RowOnly.{further_join}
use Rattle.trace_text.proofs.WordBytes.{all_over, all_over_less, is_visible, name_over, name_short, over, pieces_back}

abbrev pub are_names : List (List ℕ) → Bool
are_names names = list_all is_name names

names_over : (names : List (List ℕ)) → are_names names ≡ true → list_all (all_over 48) names ≡ true
names_over [] e = refl
names_over (name ∷ names) e = let p = and_parts _ _ e in and_from _ _ (name_over name p.0) (names_over names p.1)

-- Lemmas on names that are joined by commas.

joined_over : (name : List ℕ) (names : List (List ℕ)) → are_names (name ∷ names) ≡ true → all_over 44 (join_with_byte 44 (name ∷ names)) ≡ true
joined_over name [] e = all_over_less 44 48 name (omega arith) (name_over name (and_parts (is_name name) true e).0)
joined_over name (next ∷ names) e =
    let p = and_parts _ _ e in
    list_all-append (over 44) name (44 ∷ join_with_byte 44 (next ∷ names))
    ∙ and_from _ _ (all_over_less 44 48 name (omega arith) (name_over name p.0)) (joined_over next names p.1)

joined_filled : (name : List ℕ) (names : List (List ℕ)) → are_names (name ∷ names) ≡ true → is_filled (joined (name ∷ names)) ≡ true
joined_filled [] names e = absurd (let x = e in cc)
joined_filled (b ∷ name) names e = lt-ltb 0 (suc (length (name ++ further_joined names))) (omega arith)

pub joined_visible : (names : List (List ℕ)) → are_names names ≡ true → is_visible (joined names) ≡ true
joined_visible [] e = refl
joined_visible (name ∷ names) e =
    and_from _ _ (joined_filled name names e)
    (all_over_less 33 44 (joined (name ∷ names)) (omega arith) (subst (λ (text : List ℕ). all_over 44 text ≡ true) (further_join name names) (joined_over name names e)))

pub joined_pieces_back : (name : List ℕ) (names : List (List ℕ)) → are_names (name ∷ names) ≡ true → pieces_of 44 (joined (name ∷ names)) ≡ name ∷ names
joined_pieces_back name names e =
    ap (pieces_of 44) (sym (further_join name names)) ∙ pieces_back 44 48 name names (omega arith) (names_over (name ∷ names) e)

first_not_dash : (name : List ℕ) (names : List (List ℕ)) → are_names (name ∷ names) ≡ true → bytes_eq (joined (name ∷ names)) (codes "-") ≡ false
first_not_dash name names e = not_true _ (λ t.
    let same : joined (name ∷ names) ≡ codes "-" = same_text (joined (name ∷ names)) (codes "-") t in
    let pieces : name ∷ names ≡ codes "-" ∷ [] = sym (joined_pieces_back name names e) ∙ ap (pieces_of 44) same in
    let bad : are_names (codes "-" ∷ []) ≡ true = subst (λ (l : List (List ℕ)). are_names l ≡ true) pieces e in
    absurd (let u : false ≡ true = bad in cc))

pub items_back : (names : List (List ℕ)) → are_names names ≡ true → items_of (joined names) ≡ names
items_back [] e = refl
items_back (name ∷ names) e = rw (first_not_dash name names e) (joined_pieces_back name names e)

-- The text of `most` names or fewer that are joined by commas has at most 1 + 17 · `most` bytes.
pub joined_short : (most : ℕ) (names : List (List ℕ)) → are_names names ≡ true → length names ≤ most → length (joined names) ≤ 1 + 17 * most
joined_short most [] e few = omega arith
joined_short most (name ∷ names) e few =
    let p = and_parts _ _ e in
    let a = name_short name p.0 in
    let b = further_short names p.1 in
    let c = length-append name (further_joined names) in
    omega (arith, a, b, c, few)
  where
    further_short : (l : List (List ℕ)) → are_names l ≡ true → length (further_joined l) ≤ 17 * length l
    further_short [] h = omega arith
    further_short (x ∷ xs) h =
        let q = and_parts _ _ h in
        let d = name_short x q.0 in
        let f = further_short xs q.1 in
        let g = length-append x (further_joined xs) in
        omega (arith, d, f, g)

-- Lemmas on the processors that are up.

procs_named : (procs : List Proc) (up : ℕ) → Each (λ (proc : Proc). is_name proc.name ≡ true) procs → are_names (names_up procs up) ≡ true
procs_named [] up spelled = refl
procs_named (proc ∷ procs) up spelled = by (up % 2 == 1) (procs_named procs (up / 2) (λ i x there. spelled (suc i) x there))
  where
    by : (t : Bool) → are_names (names_up procs (up / 2)) ≡ true → are_names (cond t (proc.name ∷ names_up procs (up / 2)) (names_up procs (up / 2))) ≡ true
    by true h = and_from _ _ (spelled 0 proc refl) h
    by false h = h

few_up : (procs : List Proc) (up : ℕ) → length (names_up procs up) ≤ length procs
few_up [] up = omega arith
few_up (proc ∷ procs) up = by (up % 2 == 1) (few_up procs (up / 2))
  where
    by : (t : Bool) → length (names_up procs (up / 2)) ≤ length procs → length (cond t (proc.name ∷ names_up procs (up / 2)) (names_up procs (up / 2))) ≤ suc (length procs)
    by true h = omega (arith, h)
    by false h = omega (arith, h)

-- If a processor's name differs from the names of all processors of a list, it is not the first name among the
-- processors of the list that are up.
not_next : (proc : Proc) (procs : List Proc) (up : ℕ) → Each (λ (other : Proc). bytes_eq proc.name other.name ≡ false) procs → is_next proc (names_up procs up) ≡ false
not_next proc [] up differ = refl
not_next proc (other ∷ procs) up differ = by (up % 2 == 1) (not_next proc procs (up / 2) (λ i x there. differ (suc i) x there))
  where
    by : (t : Bool) → is_next proc (names_up procs (up / 2)) ≡ false → is_next proc (cond t (other.name ∷ names_up procs (up / 2)) (names_up procs (up / 2))) ≡ false
    by true h = differ 0 other refl
    by false h = h

all_left : (proc : Proc) (names : List (List ℕ)) → is_next proc names ≡ false → names_left proc names ≡ names
all_left proc [] h = refl
all_left proc (name ∷ names) h = rw h refl

half_below : (n up : ℕ) → up < 2 ^ suc n → up / 2 < 2 ^ n
half_below n up below =
    let e : 2 ^ suc n ≡ 2 * 2 ^ n = omega arith in
    omega (arith, e, below)

-- If the bits of the later processors are read from their names, the bits from this processor on are read from their
-- names too, whether this processor is up or not.
up_step : (t : Bool) (proc : Proc) (procs : List Proc) (bit sum up : ℕ) → (up % 2 == 1) ≡ t → Each (λ (other : Proc). bytes_eq proc.name other.name ≡ false) procs →
    ((k : ℕ) → up_from procs (names_up procs (up / 2)) (bit * 2) k ≡ Some (k + (bit * 2) * (up / 2))) →
    up_from (proc ∷ procs) (cond t (proc.name ∷ names_up procs (up / 2)) (names_up procs (up / 2))) bit sum ≡ Some (sum + bit * up)
up_step true proc procs bit sum up e apart rest =
    let odd : up % 2 ≡ 1 = eqb-true (up % 2) 1 e in
    let same = (bytes_eq-Decides proc.name proc.name).1 refl in
    let whole : up ≡ 1 + 2 * (up / 2) = omega (arith, odd) in
    let parts : bit * (1 + 2 * (up / 2)) ≡ bit * 1 + bit * (2 * (up / 2)) = mul-add bit 1 (2 * (up / 2)) in
    let twice : (bit * 2) * (up / 2) ≡ bit * (2 * (up / 2)) = mul_assoc bit 2 (up / 2) in
    let all : bit * up ≡ bit * (1 + 2 * (up / 2)) = ap (λ (k : ℕ). bit * k) whole in
    let sums : (sum + bit) + (bit * 2) * (up / 2) ≡ sum + bit * up = omega (arith, parts, twice, all) in
    rw same (rest (sum + bit) ∙ ap (λ (k : ℕ). Some k) sums)
up_step false proc procs bit sum up e apart rest =
    let odd = eqb-false (up % 2) 1 e in
    let even : up % 2 ≡ 0 = omega (arith, odd) in
    let none = not_next proc procs (up / 2) apart in
    let whole : up ≡ 2 * (up / 2) = omega (arith, even) in
    let twice : (bit * 2) * (up / 2) ≡ bit * (2 * (up / 2)) = mul_assoc bit 2 (up / 2) in
    let all : bit * up ≡ bit * (2 * (up / 2)) = ap (λ (k : ℕ). bit * k) whole in
    let sums : sum + (bit * 2) * (up / 2) ≡ sum + bit * up = omega (arith, twice, all) in
    rw (none, all_left proc (names_up procs (up / 2)) none) (rest sum ∙ ap (λ (k : ℕ). Some k) sums)

apart : (proc : Proc) (procs : List Proc) → NamesDiffer (λ (p : Proc). p.name) (proc ∷ procs) → Each (λ (other : Proc). bytes_eq proc.name other.name ≡ false) procs
apart proc procs differ i other there =
    not_true _ (λ t. let same : 0 ≡ suc i = differ 0 (suc i) proc other refl there (same_text proc.name other.name t) in absurd (omega (arith, same)))

-- Reading the names of the processors that are up adds `bit * up` to `sum`, given the bit `bit` of the first
-- processor.
up_back : (procs : List Proc) (bit sum up : ℕ) → NamesDiffer (λ (proc : Proc). proc.name) procs → up < 2 ^ length procs →
    up_from procs (names_up procs up) bit sum ≡ Some (sum + bit * up)
up_back [] bit sum up differ below =
    let none : up ≡ 0 = omega (arith, below) in
    let nothing : bit * up ≡ 0 = ap (λ (k : ℕ). bit * k) none ∙ omega arith in
    ap (λ (k : ℕ). Some k) (omega (arith, nothing))
up_back (proc ∷ procs) bit sum up differ below =
    let half : up / 2 < 2 ^ length procs = half_below (length procs) up below in
    up_step (up % 2 == 1) proc procs bit sum up refl (apart proc procs differ)
    (λ k. up_back procs (bit * 2) k (up / 2) (λ a b p q there other same. let next : suc a ≡ suc b = differ (suc a) (suc b) p q there other same in omega (arith, next)) half)

-- The text of the processors that are up is a short word of known names, and it is read as the bits `up`.
pub record UpBack (spec : Parts) (up : ℕ) : Type 0 where
  pub visible : is_visible (up_text spec up) ≡ true
  pub short : length (up_text spec up) ≤ 137
  pub known : list_all (is_proc_name spec) (items_of (up_text spec up)) ≡ true
  pub found : up_in spec.procs (up_text spec up) ≡ Some up

known_up : (spec : Parts) (procs : List Proc) (up : ℕ) → Each (λ (proc : Proc). is_proc_name spec proc.name ≡ true) procs → list_all (is_proc_name spec) (names_up procs up) ≡ true
known_up spec [] up known = refl
known_up spec (proc ∷ procs) up known = by (up % 2 == 1) (known_up spec procs (up / 2) (λ i x there. known (suc i) x there))
  where
    by : (t : Bool) → list_all (is_proc_name spec) (names_up procs (up / 2)) ≡ true → list_all (is_proc_name spec) (cond t (proc.name ∷ names_up procs (up / 2)) (names_up procs (up / 2))) ≡ true
    by true h = and_from _ _ (known 0 proc refl) h
    by false h = h

pub up_text_back : (spec : Parts) (up : ℕ) → IsSpec spec → up < 2 ^ length spec.procs → UpBack spec up
up_text_back spec up sound below =
    let named = procs_named spec.procs up sound.names.procs in
    let items : items_of (up_text spec up) ≡ names_up spec.procs up = items_back (names_up spec.procs up) named in
    let few : length spec.procs ≤ 8 = sound.procs_count.few in
    let count = few_up spec.procs up in
    let sums : 0 + 1 * up ≡ up = omega arith in
    record {
      visible = joined_visible (names_up spec.procs up) named;
      short = joined_short 8 (names_up spec.procs up) named (omega (arith, few, count));
      known = rw items (known_up spec spec.procs up (λ i proc there. rw (found_at (λ (p : Proc). p.name) spec.procs i proc sound.procs_differ there) refl));
      found = rw items (up_back spec.procs 1 0 up sound.procs_differ below ∙ ap Some sums);
    }

-- Lemmas on the values of factors.

abbrev filled_from : List Factor → ℕ → List ℕ → List ℕ → List ℕ
filled_from [] i set values = set
filled_from (factor ∷ factors) i set values = filled_from factors (i + 1) (slice_set set i (slice_index values i)) values

-- The value that is listed for each of these factors is one of the factor's values, given the number `i` of the first
-- factor.
abbrev HaveValues : List Factor → ℕ → List ℕ → Type 0
HaveValues factors i values = (x : ℕ) (factor : Factor) → slice_get factors x ≡ Some factor → slice_index values (i + x) < length factor.values

later_values : (factor : Factor) (factors : List Factor) (i : ℕ) (values : List ℕ) → HaveValues (factor ∷ factors) i values → HaveValues factors (i + 1) values
later_values factor factors i values h x other there = let e : (i + 1) + x ≡ i + suc x = omega arith in rw e (h (suc x) other there)

first_value : (factor : Factor) (factors : List Factor) (i : ℕ) (values : List ℕ) → HaveValues (factor ∷ factors) i values → slice_index values i < length factor.values
first_value factor factors i values h = let e : i + 0 ≡ i = omega arith in rw e at (h 0 factor refl)

value_back : (factor : Factor) (value : ℕ) → AreSpelled (λ (name : List ℕ). name) factor.values → NamesDiffer (λ (name : List ℕ). name) factor.values → value < length factor.values →
    NameBack (λ (name : List ℕ). name) factor.values value
value_back factor value spelled differ below = name_back (λ (name : List ℕ). name) factor.values value spelled differ below

-- The names of the values of each factor are valid and differ.
abbrev AreFactors : List Factor → Type 0
AreFactors factors = Each (λ (factor : Factor). AreSpelled (λ (name : List ℕ). name) factor.values × NamesDiffer (λ (name : List ℕ). name) factor.values) factors

values_found : (factors : List Factor) (i : ℕ) (set values : List ℕ) → AreFactors factors → HaveValues factors i values →
    values_from factors (values_named factors i values) i set ≡ Some (filled_from factors i set values)
values_found [] i set values sound have = refl
values_found (factor ∷ factors) i set values sound have =
    let facts = sound 0 factor refl in
    let back = value_back factor (slice_index values i) facts.0 facts.1 (first_value factor factors i values have) in
    rw back.found (values_found factors (i + 1) (slice_set set i (slice_index values i)) values (λ x other there. sound (suc x) other there) (later_values factor factors i values have))

values_spelled : (factors : List Factor) (i : ℕ) (values : List ℕ) → AreFactors factors → HaveValues factors i values → are_names (values_named factors i values) ≡ true
values_spelled [] i values sound have = refl
values_spelled (factor ∷ factors) i values sound have =
    let facts = sound 0 factor refl in
    let back = value_back factor (slice_index values i) facts.0 facts.1 (first_value factor factors i values have) in
    and_from _ _ back.spelled (values_spelled factors (i + 1) values (λ x other there. sound (suc x) other there) (later_values factor factors i values have))

values_count : (factors : List Factor) (i : ℕ) (values : List ℕ) → length (values_named factors i values) ≡ length factors
values_count [] i values = refl
values_count (factor ∷ factors) i values = ap suc (values_count factors (i + 1) values)

-- Filling a list from factor `i` on does not change its length. The filled list has the values `values` if the list
-- had them before factor `i` and past the last factor.
filled_width : (factors : List Factor) (i : ℕ) (set values : List ℕ) → length (filled_from factors i set values) ≡ length set
filled_width [] i set values = refl
filled_width (factor ∷ factors) i set values = filled_width factors (i + 1) (slice_set set i (slice_index values i)) values ∙ length-set set i (slice_index values i)

set_at : (set : List ℕ) (i j v : ℕ) (values : List ℕ) → i < length set → v ≡ slice_index values i → (j < i → slice_index set j ≡ slice_index values j) → j < i + 1 →
    slice_index (slice_set set i v) j ≡ slice_index values j
set_at set i j v values room is before low = elim (cases_eq j i) [
  | inl same ↦ rw same (get_or-set_same set i v 0 room ∙ is)
  | inr other ↦ get_or-set_other set i j v 0 (λ e. other e) ∙ before (omega (arith, low, other))
]

filled_values : (factors : List Factor) (i : ℕ) (set values : List ℕ) → i + length factors ≤ length set → ((j : ℕ) → j < i → slice_index set j ≡ slice_index values j) →
    ((j : ℕ) → i + length factors ≤ j → slice_index set j ≡ slice_index values j) → (j : ℕ) → slice_index (filled_from factors i set values) j ≡ slice_index values j
filled_values [] i set values room before behind j = elim (cases_lt j i) [
  | inl low ↦ before j low
  | inr high ↦ behind j (omega (arith, high))
]
filled_values (factor ∷ factors) i set values room before behind j =
    filled_values factors (i + 1) (slice_set set i (slice_index values i)) values
    (let e = length-set set i (slice_index values i) in omega (arith, e, room))
    (λ k low. set_at set i k (slice_index values i) values (omega (arith, room)) refl (before k) low)
    (λ k high. get_or-set_other set i k (slice_index values i) 0 (λ e. omega (arith, e, high)) ∙ behind k (omega (arith, high)))
    j

zeros_at : (n j : ℕ) → slice_index (replicate n 0) j ≡ 0
zeros_at zero j = refl
zeros_at (suc n) zero = refl
zeros_at (suc n) (suc j) = zeros_at n j

pub record ValuesBack (spec : Parts) (values : List ℕ) : Type 0 where
  pub visible : is_visible (values_text spec values) ≡ true
  pub short : length (values_text spec values) ≤ 103
  pub form : are_values spec.factors (values_text spec values) ≡ true
  pub found : values_in spec.factors (values_text spec values) ≡ Some values

form_back : (factors : List Factor) (values : List ℕ) → are_names (values_named factors 0 values) ≡ true → are_values factors (joined (values_named factors 0 values)) ≡ true
form_back [] values e = refl
form_back (factor ∷ factors) values e =
    let pieces = joined_pieces_back (value_name factor (slice_index values 0)) (values_named factors 1 values) e in
    rw pieces (eq-eqb _ _ (ap suc (values_count factors 1 values)))

found_back : (factors : List Factor) (values : List ℕ) → are_names (values_named factors 0 values) ≡ true →
    values_from factors (values_named factors 0 values) 0 (replicate 6 0) ≡ Some values → values_in factors (joined (values_named factors 0 values)) ≡ Some values
found_back [] values e h = h
found_back (factor ∷ factors) values e h =
    rw (joined_pieces_back (value_name factor (slice_index values 0)) (values_named factors 1 values) e) h

pub values_text_back : (spec : Parts) (env : Env) → IsSpec spec → IsEnvShown spec env → ValuesBack spec env.factors
values_text_back spec env sound shown =
    let few = sound.factors_count in
    let facts : AreFactors spec.factors = λ x factor there. ((sound.names.values x factor there), ((sound.factors x factor there).differ)) in
    let have : HaveValues spec.factors 0 env.factors = λ x factor there. let e : 0 + x ≡ x = omega arith in rw e (shown.values x factor there) in
    let named = values_spelled spec.factors 0 env.factors facts have in
    let all : (j : ℕ) → slice_index (filled_from spec.factors 0 (replicate 6 0) env.factors) j ≡ slice_index env.factors j
    = filled_values spec.factors 0 (replicate 6 0) env.factors (omega (arith, few)) (λ j low. absurd (omega (arith, low)))
    (λ j high. zeros_at 6 j ∙ sym (shown.rest j (omega (arith, high)))) in
    let width = filled_width spec.factors 0 (replicate 6 0) env.factors ∙ sym shown.width in
    let same : filled_from spec.factors 0 (replicate 6 0) env.factors ≡ env.factors = ext_get_or 0 _ _ width (λ j low. all j) in
    let count = values_count spec.factors 0 env.factors in
    record {
      visible = joined_visible (values_named spec.factors 0 env.factors) named;
      short = joined_short 6 (values_named spec.factors 0 env.factors) named (omega (arith, few, count));
      form = form_back spec.factors env.factors named;
      found = found_back spec.factors env.factors named (values_found spec.factors 0 (replicate 6 0) env.factors facts have ∙ ap Some same);
    }
