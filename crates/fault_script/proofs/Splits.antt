-- Lemmas on relations between an item of a list and the preceding items.
use Rattle.std.proofs.Common.{◌≡◌, ◌+◌, ◌-◌, ℕ, zero, suc, Bool, true, false, ◌||◌, List, [], ◌∷◌, ◌++◌, length, arith, refl, ap, sym, ◌∙◌, inl, inr}
use Rattle.std.specs.Prelude.{Option, Some, None, slice_get}
use Rattle.std.specs.List.{list_any}
use Rattle.std.proofs.lemmas.Bool.{lt-ltb}
use Rattle.std.proofs.lemmas.Bool.Decides.{nat_tests}
use Rattle.std.proofs.lemmas.Option.{same_Some, slice_get_within}
use Rattle.scram_types.specs.declared.scripts.Change.{Change}
use Rattle.scram_types.specs.declared.scripts.HaltAt.{HaltAt}
use Rattle.scram_types.specs.declared.scripts.RestartAt.{RestartAt}
use Rattle.fault_script.specs.Fits.{Before, ChangeBefore, EachLater, EachNext, HaltBefore, HaltsWellBefore, RestartBefore}
use Rattle.fault_script.specs.Orders.{change_after, change_follows, comes_after, halt_after, is_halt_before, last_of, restart_after, restart_follows}
use Rattle.fault_script.specs.Times.{is_halt_of, is_restart_of}

pub front : {A : Type 0} (xs ys : List A) (i : ℕ) (x : A) → slice_get xs i ≡ Some x → slice_get (xs ++ ys) i ≡ Some x
front [] ys i x e = absurd cc
front (z ∷ zs) ys zero x e = e
front (z ∷ zs) ys (suc i) x e = front zs ys i x e

pub seam : {A : Type 0} (xs ys : List A) (x : A) → slice_get (xs ++ x ∷ ys) (length xs) ≡ Some x
seam [] ys x = refl
seam (z ∷ zs) ys x = seam zs ys x

-- If a relation holds for each item of a list and the next one, it holds for the last item of `xs` and the item `x`
-- that comes after `xs`.
pub next_at : {A : Type 0} (R : A → A → Type 0) (xs ys : List A) (x l : A) → EachNext R (xs ++ x ∷ ys) → last_of xs ≡ Some l → R l x
next_at R xs ys x l each last =
    let within = slice_get_within xs (length xs - 1) l last in
    let place : length xs ≡ (length xs - 1) + 1 = omega (arith, within) in
    each (length xs - 1) l x (front xs (x ∷ ys) (length xs - 1) l last) (ap (slice_get (xs ++ x ∷ ys)) (sym place) ∙ seam xs ys x)

-- If a relation holds for each item of a list and each later one, it holds for each item of `xs` and the item `x`
-- that comes after `xs`.
pub later_at : {A : Type 0} (R : A → A → Type 0) (xs ys : List A) (x y : A) (i : ℕ) → EachLater R (xs ++ x ∷ ys) → slice_get xs i ≡ Some y → R y x
later_at R xs ys x y i each there =
    each i (length xs) y x (slice_get_within xs i y there) (front xs (x ∷ ys) i y there) (seam xs ys x)

pub any_passes : {A : Type 0} (p : A → Bool) (xs : List A) (i : ℕ) (x : A) → slice_get xs i ≡ Some x → p x ≡ true → list_any p xs ≡ true
any_passes p [] i x e passes = absurd cc
any_passes p (y ∷ ys) zero x e passes = let here : p y ≡ true = ap p (same_Some y x e) ∙ passes in rw here refl
any_passes p (y ∷ ys) (suc i) x e passes = rw (any_passes p ys i x e passes) (either_true (p y))
  where
    either_true : (b : Bool) → (b || true) ≡ true
    either_true true = refl
    either_true false = refl

none_by : {A : Type 0} (p : A → Bool) (here : Bool) (xs : List A) → (here ≡ true → ⊥) → list_any p xs ≡ false → (here || list_any p xs) ≡ false
none_by p true xs apart rest = absurd (apart refl)
none_by p false xs apart rest = rest

pub none_any : {A : Type 0} (p : A → Bool) (xs : List A) → ((i : ℕ) (x : A) → slice_get xs i ≡ Some x → p x ≡ true → ⊥) → list_any p xs ≡ false
none_any p [] apart = refl
none_any p (x ∷ xs) apart = none_by p (p x) xs (λ yes. apart 0 x refl yes) (none_any p xs (λ i y there yes. apart (suc i) y there yes))

comes_after_by : (a b c d : ℕ) → Before a b c d → comes_after a b c d ≡ true
comes_after_by a b c d (inl less) = rw (lt-ltb a c less) refl
comes_after_by a b c d (inr (same, less)) = grind (arith, nat_tests, same, less)

change_after_by : (o : Option Change) (c : Change) → ((l : Change) → o ≡ Some l → ChangeBefore l c) → change_after o c ≡ true
change_after_by None c before = refl
change_after_by (Some l) c before = comes_after_by l.frame l.factor.0 c.frame c.factor.0 (before l refl)

halt_after_by : (o : Option HaltAt) (h : HaltAt) → ((l : HaltAt) → o ≡ Some l → HaltBefore l h) → halt_after o h ≡ true
halt_after_by None h before = refl
halt_after_by (Some l) h before = comes_after_by l.frame l.proc.0 h.frame h.proc.0 (before l refl)

restart_after_by : (o : Option RestartAt) (r : RestartAt) → ((l : RestartAt) → o ≡ Some l → RestartBefore l r) → restart_after o r ≡ true
restart_after_by None r before = refl
restart_after_by (Some l) r before = comes_after_by l.frame l.proc.0 r.frame r.proc.0 (before l refl)

pub change_follows_by : (xs ys : List Change) (c : Change) → EachNext ChangeBefore (xs ++ c ∷ ys) → change_follows xs c ≡ true
change_follows_by xs ys c ordered = change_after_by (last_of xs) c (λ l last. next_at ChangeBefore xs ys c l ordered last)

pub halt_after_all : (xs ys : List HaltAt) (h : HaltAt) → EachNext HaltBefore (xs ++ h ∷ ys) → halt_after (last_of xs) h ≡ true
halt_after_all xs ys h ordered = halt_after_by (last_of xs) h (λ l last. next_at HaltBefore xs ys h l ordered last)

pub never_halted : (xs ys : List HaltAt) (h : HaltAt) → EachLater (λ (a b : HaltAt). a.proc.0 ≡ b.proc.0 → ⊥) (xs ++ h ∷ ys) → list_any (is_halt_of h.proc.0) xs ≡ false
never_halted xs ys h once = none_any (is_halt_of h.proc.0) xs
    (λ i y there same. later_at (λ (a b : HaltAt). a.proc.0 ≡ b.proc.0 → ⊥) xs ys h y i once there (grind (arith, nat_tests, same)))

well_before : (halts : List HaltAt) (p f : ℕ) → HaltsWellBefore halts p f → list_any (is_halt_before p f) halts ≡ true
well_before halts p f late = any_passes (is_halt_before p f) halts late.place late.halt late.there
    (let same = late.proc in let early = late.frame in grind (arith, nat_tests, same, early))

pub restart_follows_by : (halts : List HaltAt) (xs ys : List RestartAt) (r : RestartAt) → EachNext RestartBefore (xs ++ r ∷ ys)
    → EachLater (λ (a b : RestartAt). a.proc.0 ≡ b.proc.0 → ⊥) (xs ++ r ∷ ys) → HaltsWellBefore halts r.proc.0 r.frame → restart_follows halts xs r ≡ true
restart_follows_by halts xs ys r ordered once late =
    let after = restart_after_by (last_of xs) r (λ l last. next_at RestartBefore xs ys r l ordered last) in
    let first = none_any (is_restart_of r.proc.0) xs
    (λ i y there same. later_at (λ (a b : RestartAt). a.proc.0 ≡ b.proc.0 → ⊥) xs ys r y i once there (grind (arith, nat_tests, same))) in
    rw (after, first, well_before halts r.proc.0 r.frame late) refl
