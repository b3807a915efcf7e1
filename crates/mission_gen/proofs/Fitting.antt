-- The script of a mission fits each specification that has the factors and processors that the script names.
use Rattle.std.proofs.Common.{◌≡◌, refl, ap, sym, ◌∙◌, ℕ, zero, suc, ◌+◌, ◌*◌, ◌<◌, ◌≤◌, arith, List, [], ◌∷◌, length, subst, replicate}
use Rattle.std.specs.Prelude.{Bool, true, false, Some, if◌then◌else◌, map, nat_lt, slice_get}
use Rattle.std.proofs.Math.Nat.{mod-lt}
use Rattle.std.proofs.lemmas.Option.{same_Some}
use Rattle.scram_types.specs.declared.scripts.Change.{Change}
use Rattle.scram_types.specs.declared.scripts.HaltAt.{HaltAt}
use Rattle.scram_types.specs.declared.specification.Factor.{Factor}
use Rattle.scram_types.specs.Specification.{Each, Parts}
use Rattle.fault_script.specs.Fits.{AtMostTwice, ChangeBefore, EachNext, Fits, HaltBefore, IsChange, IsHalt}
use Rattle.fault_script.proofs.Ends.{each_later_none, each_later_one, each_next_none, each_none}
use Rattle.mission_gen.specs.Changes.{change_by, changes_by, count_of_values, frames_of, generated_script, last_block, value_by, values_by, generated_halt}
use Rattle.mission_gen.specs.Turns.{Turn, turns_to}
use Rattle.mission_gen.proofs.Ordering.{AreTurns, IsTurn, Precedes, Sorted, turns_kept}

-- The specification has the counts that a generated script requires: two processors, three applications, two factors
-- with two values each, and four factors with four values each. In the failure assumption, the number of halts is 1,
-- the number of changes is 1, and the window has 40 frames.
pub record HasCounts (spec : Parts) : Type 0 where
  pub procs : length spec.procs ≡ 2
  pub apps : length spec.apps ≡ 3
  pub halts : spec.halts ≡ 1
  pub changes : spec.changes ≡ 1
  pub window : spec.window ≡ 40
  pub values : map (λ (factor : Factor). length factor.values) spec.factors ≡ 2 ∷ 2 ∷ 4 ∷ 4 ∷ 4 ∷ 4 ∷ []

record HasFactor (spec : Parts) (x : ℕ) : Type 0 where
  pub factor : Factor
  pub there : slice_get spec.factors x ≡ Some factor
  pub count : length factor.values ≡ count_of_values x

counted : (factors : List Factor) (x n : ℕ) → slice_get (map (λ (factor : Factor). length factor.values) factors) x ≡ Some n →
    (factor : Factor) × (slice_get factors x ≡ Some factor) × (length factor.values ≡ n)
counted [] x n there = absurd cc
counted (factor ∷ factors) zero n there = (factor, refl, same_Some (length factor.values) n there)
counted (factor ∷ factors) (suc x) n there = counted factors x n there

six_counts : (x : ℕ) → x < 6 → slice_get (2 ∷ 2 ∷ 4 ∷ 4 ∷ 4 ∷ 4 ∷ []) x ≡ Some (count_of_values x)
six_counts zero below = refl
six_counts (suc zero) below = refl
six_counts (suc (suc zero)) below = refl
six_counts (suc (suc (suc zero))) below = refl
six_counts (suc (suc (suc (suc zero)))) below = refl
six_counts (suc (suc (suc (suc (suc zero))))) below = refl
six_counts (suc (suc (suc (suc (suc (suc x)))))) below = absurd (omega (arith, below))

has_factor : (spec : Parts) (x : ℕ) → HasCounts spec → x < 6 → HasFactor spec x
has_factor spec x counts below =
    let found = counted spec.factors x (count_of_values x) (ap (λ (ns : List ℕ). slice_get ns x) counts.values ∙ six_counts x below) in
    record { factor = found.0; there = found.1; count = found.2 }

positive : (few : Bool) → 0 < (if few then 2 else 4)
positive true = omega arith
positive false = omega arith

change_fits : (spec : Parts) (frames : ℕ) (values : List ℕ) (t : Turn) → HasCounts spec → IsTurn 60 frames t → IsChange spec frames (change_by values t)
change_fits spec frames values t counts turn =
    let factor = has_factor spec t.factor counts turn.factor in
    record {
      least = omega (arith, turn.from);
      most = turn.below;
      factor = factor.factor;
      there = factor.there;
      value = subst (λ (count : ℕ). value_by values t < count) (sym factor.count) (mod-lt _ (positive (nat_lt t.factor 2)));
    }

each_cons : {A : Type 0} (Fact : A → Type 0) (x : A) (xs : List A) → Fact x → Each Fact xs → Each Fact (x ∷ xs)
each_cons Fact x xs first rest zero y there = subst Fact (same_Some x y there) first
each_cons Fact x xs first rest (suc i) y there = rest i y there

next_cons : {A : Type 0} (R : A → A → Type 0) (x : A) (xs : List A) → ((y : A) → slice_get xs 0 ≡ Some y → R x y) → EachNext R xs → EachNext R (x ∷ xs)
next_cons R x xs first rest zero y z there next = subst (λ w. R w z) (same_Some x y there) (first z next)
next_cons R x xs first rest (suc i) y z there next =
    let later : suc i + 1 ≡ suc (i + 1) = omega arith in
    rest i y z there (subst (λ (m : ℕ). slice_get (x ∷ xs) m ≡ Some z) later next)

changes_fit : (spec : Parts) (frames : ℕ) (values : List ℕ) (ts : List Turn) → HasCounts spec → AreTurns 60 frames ts → Each (IsChange spec frames) (changes_by values ts)
changes_fit spec frames values [] counts turns = each_none (IsChange spec frames)
changes_fit spec frames values (t ∷ ts) counts turns =
    each_cons (IsChange spec frames) (change_by values t) (changes_by (values_by values t) ts) (change_fits spec frames values t counts turns.0)
    (changes_fit spec frames (values_by values t) ts counts turns.1)

first_after : (values next : List ℕ) (t : Turn) (ts : List Turn) → Precedes t ts → (c : Change) → slice_get (changes_by next ts) 0 ≡ Some c → ChangeBefore (change_by values t) c
first_after values next t [] before c there = absurd cc
first_after values next t (u ∷ us) before c there = subst (ChangeBefore (change_by values t)) (same_Some (change_by next u) c there) before

changes_sorted : (values : List ℕ) (ts : List Turn) → Sorted ts → EachNext ChangeBefore (changes_by values ts)
changes_sorted values [] sorted = each_next_none ChangeBefore
changes_sorted values (t ∷ ts) sorted =
    next_cons ChangeBefore (change_by values t) (changes_by (values_by values t) ts) (first_after values (values_by values t) t ts sorted.0)
    (changes_sorted (values_by values t) ts sorted.1)

changes_counted : (values : List ℕ) (ts : List Turn) → length (changes_by values ts) ≡ length ts
changes_counted values [] = refl
changes_counted values (t ∷ ts) = ap suc (changes_counted (values_by values t) ts)

next_of_one : {A : Type 0} (R : A → A → Type 0) (x : A) → EachNext R (x ∷ [])
next_of_one R x = next_cons R x [] (λ y there. absurd cc) (each_next_none R)

once_of_one : (h : HaltAt) → AtMostTwice (h ∷ [])
once_of_one h i zero k x y z less later p q r same last = absurd (omega (arith, less))
once_of_one h i (suc j) k x y z less later p q r same last = absurd cc

wide : (low high higher : ℕ) (ts : List Turn) → high ≤ higher → AreTurns low high ts → AreTurns low higher ts
wide low high higher [] h turns = tt
wide low high higher (t ∷ ts) h turns =
    (record { from = turns.0.from; below = omega (arith, h, turns.0.below); factor = turns.0.factor }, wide low high higher ts h turns.1)

pub script_fits : (spec : Parts) (n : ℕ) → HasCounts spec → Fits spec (generated_script n)
script_fits spec n counts =
    let k = last_block (frames_of n) in
    let kept = turns_kept n k in
    let inside : 60 * k + 16 ≤ frames_of n = omega arith in
    record {
      frames = omega arith;
      changes_count = let all = changes_counted (replicate 6 0) (turns_to n k) in omega (arith, all, kept.few);
      changes = changes_fit spec (frames_of n) (replicate 6 0) (turns_to n k) counts (wide 60 (60 * k + 16) (frames_of n) (turns_to n k) inside kept.turns);
      changes_ordered = changes_sorted (replicate 6 0) (turns_to n k) kept.sorted;
      halts_count = omega arith;
      halts =
          each_cons (IsHalt spec (frames_of n)) (generated_halt n) []
          (record { proc = omega (arith, counts.procs); frame = omega arith; step = omega (arith, counts.apps) })
          (each_none (IsHalt spec (frames_of n)));
      halts_ordered = next_of_one HaltBefore (generated_halt n);
      restarts_count = omega arith;
      restarts = each_none _;
      restarts_ordered = each_next_none _;
      restarts_once = each_later_none _;
      restarts_late = each_none _;
      halts_twice = once_of_one (generated_halt n);
      halts_again = each_later_one _ (generated_halt n);
    }
