-- The first frame, and the first break, for which a proposition holds.
use Rattle.std.proofs.Common.{◌≡◌, ℕ, zero, suc, ◌+◌, ◌<◌, ◌≤◌, Bool, true, false, refl, arith, ap, sym, ◌∙◌, ◌⊎◌, subst}
use mathlib.Core.Logic.{inl, inr}
use Rattle.std.specs.Prelude.{Option, Some, None, min, nat_eq, nat_lt}
use Rattle.std.proofs.Math.Nat.{min-le_left, min-le_right, min-eq_left, min-eq_right}
use Rattle.scram_types.proofs.Booleans.{and_left, and_right, true_false, and_false, or_cases, or_false}
use Rattle.scram_types.proofs.Naturals.{equal, not_below, below, equal_test}
use Rattle.scram_types.specs.Searches.{least_from}
use Rattle.trace_props.specs.declared.breaks.Broken.{Broken}
use Rattle.trace_props.specs.declared.breaks.Property.{Property}
use Rattle.trace_props.specs.Breaks.{ComesBefore, property_number}
use Rattle.trace_props.specs.Judging.{broken_at, comes_before, earlier, lesser_frame}
use Rattle.trace_props.proofs.Tests.{by_test}

abbrev pub IsLeastOf : (ℕ → Type 0) → Option ℕ → Type 0
IsLeastOf Breaks None = (g : ℕ) → Breaks g → ⊥
IsLeastOf Breaks (Some f) = Breaks f × ((g : ℕ) → Breaks g → f ≤ g)

abbrev pub IsFirstOf : (Property → ℕ → Type 0) → Option Broken → Type 0
IsFirstOf Breaks None = (p : Property) (g : ℕ) → Breaks p g → ⊥
IsFirstOf Breaks (Some b) = Breaks b.property b.frame × ((p : Property) (g : ℕ) → Breaks p g → ComesBefore b.property b.frame p g)

pub least_moved : (A B : ℕ → Type 0) → ((g : ℕ) → A g → B g) → ((g : ℕ) → B g → A g) → (o : Option ℕ) → IsLeastOf A o → IsLeastOf B o
least_moved A B to from None h = λ g b. h g (from g b)
least_moved A B to from (Some f) h = (to f h.0, λ g b. h.1 g (from g b))

pub first_moved : (A B : Property → ℕ → Type 0) → ((p : Property) (g : ℕ) → A p g → B p g) → ((p : Property) (g : ℕ) → B p g → A p g) → (o : Option Broken) → IsFirstOf A o → IsFirstOf B o
first_moved A B to from None h = λ p g b. h p g (from p g b)
first_moved A B to from (Some x) h = (to x.property x.frame h.0, λ p g b. h.1 p g (from p g b))

-- Lemmas on the smaller of two first frames.
le_cases : (a b : ℕ) → (a ≤ b) ⊎ (b ≤ a)
le_cases a b = grind arith

lesser_of : (A B : ℕ → Type 0) (a b : ℕ) → A a → B b → (f : ℕ) → f ≡ min a b → A f ⊎ B f
lesser_of A B a b x y f e = elim (le_cases a b) [
  | inl h ↦ inl (subst A (sym (e ∙ min-eq_left h)) x)
  | inr h ↦ inr (subst B (sym (e ∙ min-eq_right h)) y)
]

either_le : (A B : ℕ → Type 0) (a b g : ℕ) → ((g : ℕ) → A g → a ≤ g) → ((g : ℕ) → B g → b ≤ g) → A g ⊎ B g → min a b ≤ g
either_le A B a b g h k e = elim e [
  | inl x ↦ (let l = h g x in let m = min-le_left a b in omega arith)
  | inr y ↦ (let l = k g y in let m = min-le_right a b in omega arith)
]

pub least_lesser : (A B : ℕ → Type 0) (a b : Option ℕ) → IsLeastOf A a → IsLeastOf B b → IsLeastOf (λ g. A g ⊎ B g) (lesser_frame a b)
least_lesser A B None None h k = λ g e. elim e [ inl x ↦ h g x | inr y ↦ k g y ]
least_lesser A B None (Some f) h k = (inr k.0, λ g e. elim e [ inl x ↦ absurd (h g x) | inr y ↦ k.1 g y ])
least_lesser A B (Some f) None h k = (inl h.0, λ g e. elim e [ inl x ↦ h.1 g x | inr y ↦ absurd (k g y) ])
least_lesser A B (Some f) (Some g) h k = (lesser_of A B f g h.0 k.0 (min f g) refl, λ n e. either_le A B f g n h.1 k.1 e)

-- Lemmas on the order of two breaks.
same_or_less : (a b : ℕ) → a ≤ b → (a < b) ⊎ (a ≡ b)
same_or_less a b h = grind arith

is_before : (one other : Broken) → comes_before one other ≡ true → ComesBefore one.property one.frame other.property other.frame
is_before one other h = elim (or_cases (nat_lt one.frame other.frame) _ h) [
  | inl less ↦ inl (below one.frame other.frame less)
  | inr same ↦ inr (
    equal one.frame other.frame (and_left (nat_eq one.frame other.frame) _ same),
    (let less = below (property_number one.property) (property_number other.property) (and_right (nat_eq one.frame other.frame) _ same) in omega arith),
  )
]

is_not_before : (one other : Broken) → comes_before one other ≡ false → ComesBefore other.property other.frame one.property one.frame
is_not_before one other h =
    elim (same_or_less other.frame one.frame (not_below one.frame other.frame (or_false (nat_lt one.frame other.frame) _ h).0)) [
      | inl less ↦ inl less
      | inr same ↦ inr (
        same,
        not_below (property_number one.property) (property_number other.property) (and_false (nat_eq one.frame other.frame) _ ((or_false (nat_lt one.frame other.frame) _ h).1) (equal_test one.frame other.frame (sym same))),
      )
    ]

before_all : (p q r : Property) (f g h : ℕ) → ComesBefore p f q g → ComesBefore q g r h → ComesBefore p f r h
before_all p q r f g h one other = elim one [
  | inl less ↦ elim other [
    | inl more ↦ inl (omega arith)
    | inr same ↦ inl (let e = same.0 in omega arith)
  ]
  | inr alike ↦ elim other [
    | inl more ↦ inl (let e = alike.0 in omega arith)
    | inr same ↦ inr (alike.0 ∙ same.0, (let l = alike.1 in let m = same.1 in omega arith))
  ]
]

pub first_earlier : (A B : Property → ℕ → Type 0) (a b : Option Broken) → IsFirstOf A a → IsFirstOf B b → IsFirstOf (λ p g. A p g ⊎ B p g) (earlier a b)
first_earlier A B None None h k = λ p g e. elim e [ inl x ↦ h p g x | inr y ↦ k p g y ]
first_earlier A B None (Some b) h k = (inr k.0, λ p g e. elim e [ inl x ↦ absurd (h p g x) | inr y ↦ k.1 p g y ])
first_earlier A B (Some a) None h k = (inl h.0, λ p g e. elim e [ inl x ↦ h.1 p g x | inr y ↦ absurd (k p g y) ])
first_earlier A B (Some a) (Some b) h k = by_test {A = Option Broken} (IsFirstOf (λ p g. A p g ⊎ B p g)) (comes_before b a) (Some b) (Some a)
    (λ sooner. (
      inr k.0,
      λ p g e. elim e [
        | inl x ↦ before_all b.property a.property p b.frame a.frame g (is_before b a sooner) (h.1 p g x)
        | inr y ↦ k.1 p g y
      ],
    ))
    (λ later. (
      inl h.0,
      λ p g e. elim e [
        | inl x ↦ h.1 p g x
        | inr y ↦ before_all a.property b.property p a.frame b.frame g (is_not_before b a later) (k.1 p g y)
      ],
    ))

-- Lemmas that the break in the first frame in which one property is broken is the first break of that property.
alone : (p q : Property) (f g : ℕ) → q ≡ p → f ≤ g → ComesBefore p f q g
alone p q f g e h = elim (same_or_less f g h) [
  | inl less ↦ inl less
  | inr same ↦ inr (same, (let number = ap property_number e in omega arith))
]

pub first_one : (property : Property) (A : ℕ → Type 0) (o : Option ℕ) → IsLeastOf A o → IsFirstOf (λ p g. (p ≡ property) × A g) (broken_at property o)
first_one property A None h = λ p g b. h g b.1
first_one property A (Some f) h = ((refl, h.0), λ p g b. alone property p f g b.0 (h.1 g b.1))

pub none_at : (property : Property) (o : Option ℕ) → broken_at property o ≡ None → o ≡ None
none_at property None h = refl
none_at property (Some f) h = cc

pub none_left : (a b : Option Broken) → earlier a b ≡ None → a ≡ None
none_left None b h = refl
none_left (Some a) None h = cc
none_left (Some a) (Some b) h = absurd (by_test {A = Option Broken} (λ o. o ≡ None → ⊥) (comes_before b a) (Some b) (Some a) (λ _ e. cc) (λ _ e. cc) h)

pub none_right : (a b : Option Broken) → earlier a b ≡ None → b ≡ None
none_right None b h = h
none_right (Some a) None h = refl
none_right (Some a) (Some b) h = absurd (by_test {A = Option Broken} (λ o. o ≡ None → ⊥) (comes_before b a) (Some b) (Some a) (λ _ e. cc) (λ _ e. cc) h)

-- Frame `f` is one of the `n` frames from `i` on, and passes the test.
pub record InSpan (test : ℕ → Bool) (i n f : ℕ) : Type 0 where
  pub from : i ≤ f
  pub up_to : f < i + n
  pub passes : test f ≡ true

wider : (test : ℕ → Bool) (i n g : ℕ) → InSpan test (suc i) n g → InSpan test i (suc n) g
wider test i n g s = let l = s.from in let m = s.up_to in record { from = omega arith; up_to = omega arith; passes = s.passes }

narrower : (test : ℕ → Bool) (i n g : ℕ) → test i ≡ false → InSpan test i (suc n) g → InSpan test (suc i) n g
narrower test i n g fails s = elim (same_or_less i g s.from) [
  | inl less ↦ (let m = s.up_to in record { from = omega arith; up_to = omega arith; passes = s.passes })
  | inr same ↦ absurd (true_false (test i) (rw same s.passes) fails)
]

pub least_span : (test : ℕ → Bool) (i n : ℕ) → IsLeastOf (InSpan test i n) (least_from test i n)
least_span test i zero = λ g s. (let l = s.from in let m = s.up_to in absurd (omega arith))
least_span test i (suc n) = by_test {A = Option ℕ} (IsLeastOf (InSpan test i (suc n))) (test i) (Some i) (least_from test (suc i) n)
    (λ passes. (record { from = omega arith; up_to = omega arith; passes = passes }, λ g s. s.from))
    (λ fails. least_moved (InSpan test (suc i) n) (InSpan test i (suc n)) (wider test i n) (λ g. narrower test i n g fails) (least_from test (suc i) n) (least_span test (suc i) n))
