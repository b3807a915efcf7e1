-- `difference` is the frame in which SP1 is broken, or `None` if SP1 holds.
use Rattle.std.proofs.Common.{◌≡◌, ℕ, zero, suc, ◌+◌, ◌-◌, ◌<◌, ◌≤◌, true, false, refl, arith, ap, sym, ◌∙◌, List, [], ◌∷◌, length, ◌⊎◌}
use mathlib.Core.Logic.{inl, inr}
use Rattle.std.specs.Prelude.{Option, Some, None, min, slice_get, ◌==◌, ◌&&◌}
use Rattle.std.proofs.lemmas.Option.{slice_get_past}
use Rattle.scram_types.specs.declared.ids.ConfId.{ConfId}
use Rattle.scram_types.specs.declared.rows.Report.{Report}
use Rattle.scram_types.specs.declared.rows.Row.{Row}
use Rattle.scram_types.specs.Specification.{Parts}
use Rattle.scram_types.proofs.Booleans.{and_left, and_right, true_false, and_true}
use Rattle.scram_types.proofs.Naturals.{equal, below_or_at, equal_test, low_or_high}
use Rattle.scram_types.specs.Lookups.{conf_id}
use Rattle.trace_props.specs.declared.comparing.Agreement.{Agreement}
use Rattle.trace_props.specs.declared.comparing.Agreement.TheVariants.{Alike, Apart}
use Rattle.trace_props.specs.declared.judging.Judgement.{Judgement}
use Rattle.trace_props.specs.Breaks.{BreaksSp1, lesser_begin}
use Rattle.trace_props.specs.Judging.{begin_told, compare, compare_with, difference, is_same_report, is_same_target, judge, judge_all}
use Rattle.trace_props.proofs.Firsts.{IsLeastOf}
use Rattle.trace_props.proofs.Tests.{by_test}

-- Lemmas that the test of two reports for equality decides whether they are equal.
pub same_id : (c d : ConfId) → (c.0 == d.0) ≡ true → c ≡ d
same_id c d h = ap conf_id (equal c.0 d.0 h)

same_target : (one other : Option ConfId) → is_same_target one other ≡ true → one ≡ other
same_target None None h = refl
same_target None (Some d) h = absurd (true_false false h refl)
same_target (Some c) None h = absurd (true_false false h refl)
same_target (Some c) (Some d) h = ap (λ (id : ConfId). Some id) (same_id c d h)

report_by : (c d : ConfId) (a b : Option ConfId) (i j m n : ℕ) → c ≡ d → a ≡ b → i ≡ j → m ≡ n
    → ◌≡◌ {A = Report} (record { from = c; to = a; begin = i; end = m }) (record { from = d; to = b; begin = j; end = n })
report_by c d a b i j m n p q r s = rw (p, q, r, s) refl

same_report : (one other : Report) → is_same_report one other ≡ true → one ≡ other
same_report one other h =
    let three = and_left (one.from.0 == other.from.0 && is_same_target one.to other.to && one.begin == other.begin) _ h in
    let two = and_left (one.from.0 == other.from.0 && is_same_target one.to other.to) _ three in
    report_by one.from other.from one.to other.to one.begin other.begin one.end other.end
    (same_id one.from other.from (and_left (one.from.0 == other.from.0) _ two))
    (same_target one.to other.to (and_right (one.from.0 == other.from.0) _ two))
    (equal one.begin other.begin (and_right (one.from.0 == other.from.0 && is_same_target one.to other.to) _ three))
    (equal one.end other.end (and_right (one.from.0 == other.from.0 && is_same_target one.to other.to && one.begin == other.begin) _ h))

target_self : (one : Option ConfId) → is_same_target one one ≡ true
target_self None = refl
target_self (Some c) = equal_test c.0 c.0 refl

report_self : (one : Report) → is_same_report one one ≡ true
report_self one =
    and_true (one.from.0 == one.from.0 && is_same_target one.to one.to && one.begin == one.begin) _
    (and_true (one.from.0 == one.from.0 && is_same_target one.to one.to) _ (and_true (one.from.0 == one.from.0) _ (equal_test one.from.0 one.from.0 refl) (target_self one.to)) (equal_test one.begin one.begin refl)) (equal_test one.end one.end refl)

-- Lemmas that two lists of reports are equal if they are equal at each index.
past_none : (k : ℕ) → slice_get {X = Report} [] k ≡ None
past_none k = slice_get_past {X = Report} [] k (omega arith)

pub same_list : (xs ys : List Report) → ((k : ℕ) → slice_get xs k ≡ slice_get ys k) → xs ≡ ys
same_list [] [] h = refl
same_list [] (y ∷ ys) h = let e : ◌≡◌ {A = Option Report} None (Some y) = sym (past_none 0) ∙ h 0 in cc
same_list (x ∷ xs) [] h = let e : ◌≡◌ {A = Option Report} (Some x) None = h 0 ∙ past_none 0 in cc
same_list (x ∷ xs) (y ∷ ys) h =
    let e : ◌≡◌ {A = Option Report} (Some x) (Some y) = h 0 in
    let head : x ≡ y = cc in
    let tail = same_list xs ys (λ k. h (suc k)) in
    cc

-- The first `place` reports equal the first `place` reconfigurations if the agreement is `Alike`. SP1 is broken in
-- the given frame if the agreement is `Apart`.
abbrev pub Agrees : List Report → List Report → ℕ → Agreement → Type 0
Agrees told all place (Alike n) = (n ≡ place) × ((k : ℕ) → k < place → slice_get told k ≡ slice_get all k)
Agrees told all place (Apart frame) = BreaksSp1 told all frame

next_alike : (told all : List Report) (place : ℕ) → ((k : ℕ) → k < place → slice_get told k ≡ slice_get all k) → slice_get told place ≡ slice_get all place
    → (k : ℕ) → k < suc place → slice_get told k ≡ slice_get all k
next_alike told all place before here k h = elim (below_or_at k place h) [
  | inl low ↦ before k low
  | inr last ↦ rw last here
]

module _ (told all : List Report) (place : ℕ) (read : Report) (there : slice_get all place ≡ Some read) (before : (k : ℕ) → k < place → slice_get told k ≡ slice_get all k) where
  met : (o : Option Report) → slice_get told place ≡ o → Agrees told all (suc place) (compare_with place o read)
  met None e = record {
    place = place;
    alike = before;
    differ = λ same. (let no : ◌≡◌ {A = Option Report} None (Some read) = sym e ∙ same ∙ there in cc);
    began = rw (e, there) refl;
  }
  met (Some one) e = by_test {A = Agreement} (Agrees told all (suc place)) (is_same_report one read) (Alike (place + 1)) (Apart (min one.begin read.begin))
      (λ same. (omega arith, next_alike told all place before (e ∙ ap (λ (r : Report). Some r) (same_report one read same) ∙ sym there)))
      (λ other. record {
        place = place;
        alike = before;
        differ = λ same. (let told_is : ◌≡◌ {A = Option Report} (Some one) (Some read) = sym e ∙ same ∙ there in
            let alike : one ≡ read = cc in true_false (is_same_report one read) (rw alike (report_self read)) other);
        began = rw (e, there) refl;
      })

agrees_next : (told all : List Report) (place : ℕ) (read : Report) → slice_get all place ≡ Some read → (a : Agreement) → Agrees told all place a → Agrees told all (suc place) (compare told a read)
agrees_next told all place read there (Alike n) h = rw h.0 (met told all place read there h.1 (slice_get told place) refl)
agrees_next told all place read there (Apart frame) h = h

pub agrees_all : (spec : Parts) (rows : List Row) (told all read : List Report) (place : ℕ) → ((k : ℕ) → slice_get all (place + k) ≡ slice_get read k)
    → (s : Judgement) → Agrees told all place s.agreement → (n : ℕ) × ((k : ℕ) → slice_get all (n + k) ≡ None) × Agrees told all n (judge_all spec rows told s read).agreement
agrees_all spec rows told all [] place rest s h = (place, (λ k. rest k ∙ past_none k), h)
agrees_all spec rows told all (r ∷ read) place rest s h =
    let here : slice_get all place ≡ Some r = ap (slice_get all) (omega arith) ∙ rest 0 in
    agrees_all spec rows told all read (suc place) (λ k. ap (slice_get all) (omega arith) ∙ rest (suc k)) (judge spec rows told s (Some r)) (agrees_next told all place r here s.agreement h)

-- Lemmas that two lists that differ have only one first difference, so that SP1 is broken in only one frame.
places : (a b : ℕ) → (a < b) ⊎ ((b < a) ⊎ (a ≡ b))
places a b = grind arith

same_frame : (told all : List Report) (f g : ℕ) → BreaksSp1 told all f → BreaksSp1 told all g → f ≤ g
same_frame told all f g one other = elim (places one.place other.place) [
  | inl low ↦ absurd (one.differ (other.alike one.place low))
  | inr high ↦ elim high [
    | inl more ↦ absurd (other.differ (one.alike other.place more))
    | inr same ↦ (let e : ◌≡◌ {A = Option ℕ} (Some f) (Some g) = sym one.began ∙ ap (λ k. lesser_begin (slice_get told k) (slice_get all k)) same ∙ other.began in
        let alike : f ≡ g = cc in omega arith)
  ]
]

past_all : (xs : List Report) (n k : ℕ) → slice_get xs n ≡ None → slice_get xs (n + k) ≡ None
past_all xs n k e = slice_get_past xs (n + k) (let past = past_end xs n e in omega arith)
  where
    past_end : (ys : List Report) (m : ℕ) → slice_get ys m ≡ None → length ys ≤ m
    past_end [] m h = omega arith
    past_end (y ∷ ys) zero h = absurd (let no : ◌≡◌ {A = Option Report} (Some y) None = h in cc)
    past_end (y ∷ ys) (suc m) h = let rest = past_end ys m h in omega arith

pub low_or_past : (k n : ℕ) → (k < n) ⊎ ((m : ℕ) × (k ≡ n + m))
low_or_past k n = elim (low_or_high k n) [
  | inl less ↦ inl less
  | inr past ↦ inr (k - n, omega arith)
]

module _ (told all : List Report) (n : ℕ) (ended : (k : ℕ) → slice_get all (n + k) ≡ None) where
  ended_here : slice_get all n ≡ None
  ended_here = ap (slice_get all) (omega arith) ∙ ended 0

  finished : ((k : ℕ) → k < n → slice_get told k ≡ slice_get all k) → (o : Option Report) → slice_get told n ≡ o
      → IsLeastOf (BreaksSp1 told all) (begin_told o) × (begin_told o ≡ None → told ≡ all)
  finished before None e =
      let same = same_list told all (λ k. elim (low_or_past k n) [
        | inl low ↦ before k low
        | inr past ↦ rw past.1 (past_all told n past.0 e ∙ sym (ended past.0))
      ]) in
      ((λ g b. b.differ (ap (λ xs. slice_get xs b.place) same)), (λ _. same))
  finished before (Some one) e =
      let break : BreaksSp1 told all one.begin = record {
        place = n;
        alike = before;
        differ = λ same. (let no : ◌≡◌ {A = Option Report} (Some one) None = sym e ∙ same ∙ ended_here in cc);
        began = rw (e, ended_here) refl;
      } in
      ((break, λ g b. same_frame told all one.begin g break b), λ h. cc)

  pub told_least : (a : Agreement) → Agrees told all n a → IsLeastOf (BreaksSp1 told all) (difference told a) × (difference told a ≡ None → told ≡ all)
  told_least (Alike m) h = rw h.0 (finished h.1 (slice_get told n) refl)
  told_least (Apart frame) h = ((h, λ g b. same_frame told all frame g h b), λ e. cc)
