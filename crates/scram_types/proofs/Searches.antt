-- Lemmas on searches through the numbers below `n`.
use Rattle.std.proofs.Common.{◌≡◌, ℕ, zero, suc, ◌+◌, ◌-◌, ◌<◌, ◌≤◌, Bool, true, false, refl, arith, ap, sym, ◌∙◌, ◌⊎◌, [], ◌∷◌, ◌++◌, length}
use mathlib.Core.Logic.{inl, inr}
use Rattle.std.specs.Prelude.{Option, Some, None, is_some, max, slice_get}
use Rattle.std.specs.Option.{option_or}
use Rattle.std.proofs.Math.Bool.{or-false}
use Rattle.std.proofs.Math.ListN.{length-append}
use Rattle.std.proofs.lemmas.Bool.{and_cases}
use Rattle.scram_types.specs.Searches.{all_below, any_below, first_below, greatest_below, least_from, listed_below}
use Rattle.scram_types.proofs.Booleans.{and_left, and_right, by_bool, or_cases, or_left, or_right, true_false}
use Rattle.scram_types.proofs.Items.{first_part, next_part}
use Rattle.scram_types.proofs.Naturals.{at_or_below, below_or_at, plus_one}
use Rattle.scram_types.proofs.Options.{none_both, none_left, none_right, none_if_not_some, some_either, some_none}

-- Lemmas on `all_below`.

pub all_each : (test : ℕ → Bool) (n k : ℕ) → all_below test n ≡ true → k < n → test k ≡ true
all_each test zero k e less = absurd (omega arith)
all_each test (suc n) k e less = elim (below_or_at k n less) [
  | inl earlier ↦ all_each test n k (and_left (all_below test n) (test n) e) earlier
  | inr same ↦ ap test same ∙ and_right (all_below test n) (test n) e
]

pub each_all : (test : ℕ → Bool) (n : ℕ) → ((k : ℕ) → k < n → test k ≡ true) → all_below test n ≡ true
each_all test zero each = refl
each_all test (suc n) each = rw (each_all test n (λ k less. each k (omega arith)), each n (omega arith)) refl

pub all_false : (test : ℕ → Bool) (n k : ℕ) → k < n → test k ≡ false → all_below test n ≡ false
all_false test n k less here = by_bool (all_below test n) (λ t. true_false (test k) (all_each test n k t less) here) (λ f. f)

-- If not all numbers pass a test, some number fails it.
pub fails_below : (test : ℕ → Bool) (n : ℕ) → all_below test n ≡ false → (k : ℕ) × (k < n) × (test k ≡ false)
fails_below test zero h = absurd (cc)
fails_below test (suc n) h = elim (and_cases (all_below test n) (test n) h) [
  | inl earlier ↦ (let found = fails_below test n earlier in (found.0, omega arith, found.2))
  | inr here ↦ (n, omega arith, here)
]

pub all_more : (test : ℕ → Bool) (n : ℕ) → all_below test n ≡ true → test n ≡ true → all_below test (n + 1) ≡ true
all_more test n before here = rw (← plus_one n, before) here

-- Lemmas on `any_below`.

pub any_below_is : (test : ℕ → Bool) (n k : ℕ) → test k ≡ true → k < n → any_below test n ≡ true
any_below_is test zero k e less = absurd (omega arith)
any_below_is test (suc n) k e less = elim (below_or_at k n less) [
  | inl earlier ↦ or_left (any_below test n) (test n) (any_below_is test n k e earlier)
  | inr same ↦ or_right (any_below test n) (test n) (sym (ap test same) ∙ e)
]

pub any_below_found : (test : ℕ → Bool) (n : ℕ) → any_below test n ≡ true → (k : ℕ) × (k < n) × (test k ≡ true)
any_below_found test zero e = absurd (cc)
any_below_found test (suc n) e = elim (or_cases (any_below test n) (test n) e) [
  | inl earlier ↦ (let found = any_below_found test n earlier in (found.0, omega arith, found.2))
  | inr here ↦ (n, omega arith, here)
]

-- If no number from `low` to before `n` passes a test, `any_below` has the same value for `n` and for `low`.
pub any_skip : (test : ℕ → Bool) (n low : ℕ) → low ≤ n → ((k : ℕ) → low ≤ k → k < n → test k ≡ false) → any_below test n ≡ any_below test low
any_skip test zero low h none = let least : zero ≡ low = omega arith in ap (any_below test) least
any_skip test (suc n) low h none = elim (at_or_below low n h) [
  | inl less ↦ rw (none n less (omega arith), or-false (any_below test n)) (any_skip test n low less (λ k from below. none k from (omega arith)))
  | inr same ↦ ap (any_below test) (sym same)
]

-- Lemmas on `first_below`, the first value of a function.

pub none_below : {A : Type 0} (answer : ℕ → Option A) (n : ℕ) → ((k : ℕ) → k < n → answer k ≡ None) → first_below answer n ≡ None
none_below answer zero each = refl
none_below answer (suc n) each = none_both (first_below answer n) (answer n) (none_below answer n (λ k less. each k (omega arith))) (each n (omega arith))

pub below_none : {A : Type 0} (answer : ℕ → Option A) (n k : ℕ) → first_below answer n ≡ None → k < n → answer k ≡ None
below_none answer zero k e less = absurd (omega arith)
below_none answer (suc n) k e less = elim (below_or_at k n less) [
  | inl earlier ↦ below_none answer n k (none_left (first_below answer n) (answer n) e) earlier
  | inr same ↦ ap answer same ∙ none_right (first_below answer n) (answer n) e
]

pub first_found : {A : Type 0} (answer : ℕ → Option A) (n k : ℕ) (x : A) → first_below answer k ≡ None → answer k ≡ Some x → k < n → first_below answer n ≡ Some x
first_found answer zero k x before here less = absurd (omega arith)
first_found answer (suc n) k x before here less = elim (below_or_at k n less) [
  | inl earlier ↦ rw (first_found answer n k x before here earlier) refl
  | inr same ↦ rw (ap (first_below answer) (sym same) ∙ before) (ap answer (sym same) ∙ here)
]

pub first_is : {A : Type 0} (answer : ℕ → Option A) (n k : ℕ) (o : Option A) → first_below answer k ≡ None → o ≡ answer k → is_some o ≡ true → k < n → o ≡ first_below answer n
first_is answer n k None before here some less = absurd (cc)
first_is answer n k (Some x) before here some less = sym (first_found answer n k x before (sym here) less)

pub none_more : {A : Type 0} (answer : ℕ → Option A) (n : ℕ) → first_below answer n ≡ None → answer n ≡ None → first_below answer (n + 1) ≡ None
none_more answer n before here = ap (first_below answer) (sym (plus_one n)) ∙ none_both (first_below answer n) (answer n) before here

pub first_more : {A : Type 0} (answer : ℕ → Option A) (k : ℕ) (o : Option A) → first_below answer k ≡ None → o ≡ answer k → is_some o ≡ false → first_below answer (k + 1) ≡ None
first_more answer k o before here none = none_more answer k before (sym here ∙ none_if_not_some o none)

pub found_below : {A : Type 0} (answer : ℕ → Option A) (n : ℕ) (x : A) → first_below answer n ≡ Some x → (k : ℕ) × (k < n) × (answer k ≡ Some x)
found_below answer zero x e = some_none x (sym e)
found_below answer (suc n) x e = elim (some_either (first_below answer n) (answer n) x e) [
  | inl earlier ↦ (let found = found_below answer n x earlier in (found.0, omega arith, found.2))
  | inr here ↦ (n, omega arith, here)
]

-- Lemmas on `least_from`, for one step of a search.

pub least_passes : (test : ℕ → Bool) (n c : ℕ) → c < n → test c ≡ false → least_from test (c + 1) (n - (c + 1)) ≡ least_from test c (n - c)
least_passes test n c below fails =
    let e : n - c ≡ suc (n - (c + 1)) = omega arith in
    let next : c + 1 ≡ suc c = omega arith in
    rw (e, fails, next) refl

-- Lemmas on `greatest_below`.

pub greatest_most : (value : ℕ → ℕ) (n k : ℕ) → k < n → value k ≤ greatest_below value n
greatest_most value zero k less = absurd (omega arith)
greatest_most value (suc n) k less = elim (below_or_at k n less) [
  | inl earlier ↦ (let before = greatest_most value n k earlier in omega arith)
  | inr same ↦ rw same (omega arith)
]

max_or : (a b : ℕ) → (max a b ≡ a) ⊎ (max a b ≡ b)
max_or a b = grind arith

-- `greatest_below` is 0 or the value of some number below `n`.
pub greatest_reached : (value : ℕ → ℕ) (n : ℕ) → (greatest_below value n ≡ 0) ⊎ ((k : ℕ) × (k < n) × (greatest_below value n ≡ value k))
greatest_reached value zero = inl refl
greatest_reached value (suc n) = elim (max_or (value n) (greatest_below value n)) [
  | inl e ↦ inr (n, omega arith, e)
  | inr e ↦ elim (greatest_reached value n) [
    | inl z ↦ inl (e ∙ z)
    | inr r ↦ inr (r.0, omega arith, e ∙ r.2)
  ]
]

pub greatest_zero : (value : ℕ → ℕ) (n : ℕ) → ((k : ℕ) → k < n → value k ≡ 0) → greatest_below value n ≡ 0
greatest_zero value zero h = refl
greatest_zero value (suc n) h = let here = h n (omega arith) in let before = greatest_zero value n (λ k less. h k (omega arith)) in omega arith

pub greatest_within : (value : ℕ → ℕ) (n most : ℕ) → ((k : ℕ) → k < n → value k ≤ most) → greatest_below value n ≤ most
greatest_within value zero most h = omega arith
greatest_within value (suc n) most h = let here = h n (omega arith) in let before = greatest_within value n most (λ k less. h k (omega arith)) in omega arith

pub greatest_same : (f g : ℕ → ℕ) (n : ℕ) → ((k : ℕ) → k < n → f k ≡ g k) → greatest_below f n ≡ greatest_below g n
greatest_same f g zero h = refl
greatest_same f g (suc n) h = rw (h n (omega arith), greatest_same f g n (λ k less. h k (omega arith))) refl

-- Lemmas on `listed_below`.

pub length_listed : {A : Type 0} (value : ℕ → A) (n : ℕ) → length (listed_below value n) ≡ n
length_listed value zero = refl
length_listed value (suc n) = length-append (listed_below value n) (value n ∷ []) ∙ (let before = length_listed value n in omega arith)

pub get_listed : {A : Type 0} (value : ℕ → A) (n k : ℕ) → k < n → slice_get (listed_below value n) k ≡ Some (value k)
get_listed value zero k h = absurd (omega arith)
get_listed value (suc n) k h = elim (below_or_at k n h) [
  | inl low ↦ first_part (listed_below value n) (value n ∷ []) k (value k) (get_listed value n k low)
  | inr last ↦ rw last (ap (slice_get (listed_below value n ++ value n ∷ [])) (sym (length_listed value n)) ∙ next_part (listed_below value n) [] (value n))
]

told_by : {A : Type 0} (answer : ℕ → Option A) (n : ℕ) (x : A) (o : Option A) → first_below answer n ≡ o → option_or o (answer n) ≡ Some x
    → (first_below answer n ≡ Some x → (k : ℕ) × (k < n) × (first_below answer k ≡ None) × (answer k ≡ Some x)) → (k : ℕ) × (k < suc n) × (first_below answer k ≡ None) × (answer k ≡ Some x)
told_by answer n x (Some y) is told before = let found = before (is ∙ told) in (found.0, omega arith, found.2, found.3)
told_by answer n x None is told before = (n, omega arith, is, told)

-- If `x` is the first value of `answer` below `n`, `answer` has the value `x` at some number `k` below `n`, and is
-- `None` at each number below `k`.
pub first_told : {A : Type 0} (answer : ℕ → Option A) (n : ℕ) (x : A) → first_below answer n ≡ Some x → (k : ℕ) × (k < n) × (first_below answer k ≡ None) × (answer k ≡ Some x)
first_told answer zero x e = some_none x (sym e)
first_told answer (suc n) x e = told_by answer n x (first_below answer n) refl e (first_told answer n x)
