-- A processor has at most one halt in a frame. This halt decides whether the processor commits the frame.
use Rattle.std.proofs.Common.{◌≡◌, ◌∙◌, ℕ, suc, ◌+◌, ◌<◌, ◌≤◌, refl, ap, arith, Bool, true, false, not, ◌&&◌, ◌||◌, List, [], ◌∷◌, ◌⊎◌}
use mathlib.Core.Logic.{inl, inr}
use Rattle.std.specs.Prelude.{◌==◌, nat_le, find, Option, Some, None, if◌then◌else◌}
use Rattle.std.specs.List.{list_any}
use Rattle.std.proofs.Math.Bool.{or-false}
use Rattle.std.proofs.lemmas.Bool.Decides.{nat_tests}
use Rattle.scram_types.specs.declared.scripts.HaltAt.{HaltAt}
use Rattle.scram_types.specs.Scripts.{ScriptParts}
use Rattle.scram_types.specs.Specification.{Parts}
use Rattle.fault_script.specs.Fits.{Before, EachNext, Fits, HaltBefore}
use Rattle.fault_script.specs.Times.{commits, halt_in, is_halt_in, is_up, words}

-- Whether there is a halt, and it comes after at most `w` stores, before the mark.
abbrev pub is_early : ℕ → Option HaltAt → Bool
is_early w None = false
is_early w (Some halt) = nat_le halt.step w

abbrev AtLeast : ℕ → ℕ → ℕ → ℕ → Type 0
AtLeast f p g q = (f < g) ⊎ ((f ≡ g) × (p ≤ q))

later : (f p g q h r : ℕ) → AtLeast f p g q → Before g q h r → Before f p h r
later f p g q h r (inl a) (inl b) = inl (omega arith)
later f p g q h r (inl a) (inr b) = let e = b.0 in inl (omega (arith, e, a))
later f p g q h r (inr a) (inl b) = let e = a.0 in inl (omega (arith, e, b))
later f p g q h r (inr a) (inr b) = let d = a.0 in let e = b.0 in let l = a.1 in let m = b.1 in inr (d ∙ e, omega (arith, l, m))

reached : (f p h r : ℕ) → Before f p h r → AtLeast f p h r
reached f p h r (inl b) = inl b
reached f p h r (inr b) = let l = b.1 in inr (b.0, omega (arith, l))

and_false : (b : Bool) → (b && false) ≡ false
and_false true = refl
and_false false = refl

apart : (f p h r : ℕ) → Before f p h r → (r == p && h == f) ≡ false
apart f p h r (inl b) = let e : (h == f) ≡ false = grind (arith, nat_tests, b) in rw e (and_false (r == p))
apart f p h r (inr b) = let l = b.1 in let e : (r == p) ≡ false = grind (arith, nat_tests, l) in rw e refl

here : (b c : Bool) (p f h r : ℕ) → (r == p) ≡ b → (h == f) ≡ c → (b && c) ≡ true → AtLeast f p h r
here true true p f h r is_r is_h holds = let e : f ≡ h = grind (arith, nat_tests, is_h) in let d : p ≤ r = grind (arith, nat_tests, is_r) in inr (e, d)
here true false p f h r is_r is_h holds = cc
here false c p f h r is_r is_h holds = cc

tail : (x : HaltAt) (xs : List HaltAt) → EachNext HaltBefore (x ∷ xs) → EachNext HaltBefore xs
tail x xs next i a b is_a is_b = let e : suc i + 1 ≡ suc (i + 1) = omega arith in next (suc i) a b is_a (rw e is_b)

none_after : (w p f : ℕ) (x : HaltAt) (xs : List HaltAt) → AtLeast f p x.frame x.proc.0 → EachNext HaltBefore (x ∷ xs)
    → list_any (λ (halt : HaltAt). is_halt_in p f halt && nat_le halt.step w) xs ≡ false
none_after w p f x [] far next = refl
none_after w p f x (y ∷ ys) far next =
    let past = later f p x.frame x.proc.0 y.frame y.proc.0 far (next 0 x y refl refl) in
    rw (apart f p y.frame y.proc.0 past) (none_after w p f y ys (reached f p y.frame y.proc.0 past) (tail x (y ∷ ys) next))

by_first : (w p f : ℕ) (x : HaltAt) (xs : List HaltAt) → EachNext HaltBefore (x ∷ xs) → (b : Bool) → is_halt_in p f x ≡ b
    → list_any (λ (halt : HaltAt). is_halt_in p f halt && nat_le halt.step w) xs ≡ is_early w (find (is_halt_in p f) xs)
    → ((b && nat_le x.step w) || list_any (λ (halt : HaltAt). is_halt_in p f halt && nat_le halt.step w) xs) ≡ is_early w (if b then Some x else find (is_halt_in p f) xs)
by_first w p f x xs next true is rest =
    rw (none_after w p f x xs (here (x.proc.0 == p) (x.frame == f) p f x.frame x.proc.0 refl refl is) next) (or-false (nat_le x.step w))
by_first w p f x xs next false is rest = rest

early_is : (w p f : ℕ) (halts : List HaltAt) → EachNext HaltBefore halts
    → list_any (λ (halt : HaltAt). is_halt_in p f halt && nat_le halt.step w) halts ≡ is_early w (find (is_halt_in p f) halts)
early_is w p f [] next = refl
early_is w p f (x ∷ xs) next = by_first w p f x xs next (is_halt_in p f x) refl (early_is w p f xs (tail x xs next))

-- A processor commits a frame if and only if it is up in the frame and does not halt in the frame before the mark.
pub commits_by : (spec : Parts) (script : ScriptParts) → Fits spec script → (p f : ℕ) → commits spec script p f ≡ (is_up script p f && not (is_early (words spec) (halt_in script p f)))
commits_by spec script fits p f = ap (λ b. is_up script p f && not b) (early_is (words spec) p f script.halts fits.halts_ordered)
