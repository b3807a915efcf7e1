-- Lists of eight elements that are filled from the front.
use Rattle.std.proofs.Common.{◌≡◌, ◌∙◌, ℕ, ◌+◌, ◌<◌, ◌≤◌, refl, ap, arith, List, [], ◌∷◌, length, sym, ◌⊎◌}
use mathlib.Core.Logic.{inl, inr}
use Rattle.std.specs.Prelude.{slice_index_or, slice_set}
use Rattle.std.proofs.lemmas.Grind.{get_or-set_at}
use Rattle.std.proofs.lemmas.List.{get_or-set_other, length-set}
use Rattle.scram_types.specs.Eights.{eight}

-- A list has eight elements, and the first `n` of them are the values at their indexes.
pub record Filled {A : Type 0} (value : ℕ → A) (xs : List A) (n : ℕ) : Type 0 where
  pub eight : length xs ≡ 8
  pub front : (k : ℕ) (d : A) → k < n → slice_index_or xs k d ≡ value k

last_or_below : (k n : ℕ) → k < n + 1 → (k ≡ n) ⊎ (k < n)
last_or_below k n h = grind arith

set_front : {A : Type 0} (value : ℕ → A) (xs : List A) (n : ℕ) (x : A) → Filled value xs n → n < 8 → x ≡ value n
    → (k : ℕ) (d : A) → k < n + 1 → slice_index_or (slice_set xs n x) k d ≡ value k
set_front value xs n x filled low is k d under = elim (last_or_below k n under) [
  | inl here ↦ let inside : n < length xs = rw filled.eight low in get_or-set_at xs n k x d here inside ∙ is ∙ ap value (sym here)
  | inr before ↦ get_or-set_other xs n k x d (λ same. omega arith) ∙ filled.front k d before
]

pub filled_more : {A : Type 0} (value : ℕ → A) (xs : List A) (n : ℕ) (x : A) → Filled value xs n → n < 8 → x ≡ value n → Filled value (slice_set xs n x) (n + 1)
filled_more value xs n x filled low is = record {
  eight = length-set xs n x ∙ filled.eight;
  front = set_front value xs n x filled low is;
}

all_eight : {A : Type 0} (value : ℕ → A) (xs : List A) → length xs ≡ 8 → ((k : ℕ) (d : A) → k < 8 → slice_index_or xs k d ≡ value k) → xs ≡ eight value
all_eight value [] eight is = absurd (omega arith)
all_eight value (a ∷ []) eight is = absurd (omega arith)
all_eight value (a ∷ b ∷ []) eight is = absurd (omega arith)
all_eight value (a ∷ b ∷ c ∷ []) eight is = absurd (omega arith)
all_eight value (a ∷ b ∷ c ∷ d ∷ []) eight is = absurd (omega arith)
all_eight value (a ∷ b ∷ c ∷ d ∷ e ∷ []) eight is = absurd (omega arith)
all_eight value (a ∷ b ∷ c ∷ d ∷ e ∷ f ∷ []) eight is = absurd (omega arith)
all_eight value (a ∷ b ∷ c ∷ d ∷ e ∷ f ∷ g ∷ []) eight is = absurd (omega arith)
all_eight value (a ∷ b ∷ c ∷ d ∷ e ∷ f ∷ g ∷ h ∷ []) eight is =
    rw (
      ← is 0 a (omega arith),
      ← is 1 a (omega arith),
      ← is 2 a (omega arith),
      ← is 3 a (omega arith),
      ← is 4 a (omega arith),
      ← is 5 a (omega arith),
      ← is 6 a (omega arith),
      ← is 7 a (omega arith),
    ) refl
all_eight value (a ∷ b ∷ c ∷ d ∷ e ∷ f ∷ g ∷ h ∷ i ∷ more) eight is = absurd (omega arith)

pub filled_all : {A : Type 0} (value : ℕ → A) (xs : List A) → Filled value xs 8 → xs ≡ eight value
filled_all value xs filled = all_eight value xs filled.eight filled.front

-- The elements of `xs` from index `n` on are those of `old`.
abbrev pub AreStill : {A : Type 0} → List A → List A → ℕ → Type 0
AreStill {A} old xs n = (k : ℕ) (d : A) → n ≤ k → slice_index_or xs k d ≡ slice_index_or old k d

pub still_more : {A : Type 0} (old xs : List A) (n : ℕ) (x : A) → AreStill old xs n → AreStill old (slice_set xs n x) (n + 1)
still_more old xs n x still k d from = get_or-set_other xs n k x d (λ same. omega (arith, from, same)) ∙ still k d (omega (arith, from))
