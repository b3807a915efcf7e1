-- In a script that fits, each halt is one that its processor may have. Without restarts, each processor halts at most
-- once.
use Rattle.std.proofs.Common.{◌≡◌, ◌≤◌, ◌<◌, ◌+◌, ◌==◌, ℕ, zero, suc, Bool, true, false, ◌&&◌, ◌||◌, cond, List, [], ◌∷◌, ◌++◌, length, map, arith, refl, sym, ◌∙◌, inl, inr}
use Rattle.std.specs.Prelude.{Some, slice_get}
use Rattle.std.specs.List.{AllByRecursion, IsDistinct, list_any}
use Rattle.std.proofs.lemmas.Bool.{or_cases}
use Rattle.std.proofs.lemmas.List.{length-map}
use Rattle.std.proofs.lemmas.Bool.Decides.{nat_tests}
use Rattle.std.proofs.lemmas.Map.Steps.{length-le_from_distinct_below}
use Rattle.std.proofs.lemmas.Option.{slice_get_within}
use Rattle.scram_types.specs.declared.scripts.HaltAt.{HaltAt}
use Rattle.scram_types.specs.declared.scripts.RestartAt.{RestartAt}
use Rattle.scram_types.specs.Specification.{Each}
use Rattle.fault_script.specs.Fits.{AtMostTwice, EachLater, RestartsBy}
use Rattle.fault_script.specs.Orders.{halts_of, is_restart_by, may_halt}
use Rattle.fault_script.proofs.Alternation.{Again}
use Rattle.fault_script.proofs.Splits.{any_passes, front, later_at, seam}

one_at : {P : Type 0} (p : ℕ) (here : Bool) (x : HaltAt) (xs : List HaltAt) → (x.proc.0 == p) ≡ here → 1 ≤ cond here 1 0 + halts_of p xs
    → (1 ≤ halts_of p xs → P) → (x.proc.0 ≡ p → P) → P
one_at p true x xs is many later first = first (grind (arith, nat_tests, is))
one_at p false x xs is many later first = later (omega (arith, many))

-- If a list has a halt of processor `p`, there is an index of such a halt.
one_there : {P : Type 0} (p : ℕ) (xs : List HaltAt) → 1 ≤ halts_of p xs → ((i : ℕ) (x : HaltAt) → slice_get xs i ≡ Some x → x.proc.0 ≡ p → P) → P
one_there p [] many then = absurd (omega (arith, many))
one_there p (x ∷ xs) many then =
    one_at p (x.proc.0 == p) x xs refl many
    (λ more. one_there p xs more (λ i y there same. then (suc i) y there same))
    (λ same. then 0 x refl same)

two_at : {P : Type 0} (p : ℕ) (here : Bool) (x : HaltAt) (xs : List HaltAt) → (x.proc.0 == p) ≡ here → 2 ≤ cond here 1 0 + halts_of p xs
    → (2 ≤ halts_of p xs → P) → (x.proc.0 ≡ p → 1 ≤ halts_of p xs → P) → P
two_at p true x xs is many later first = first (grind (arith, nat_tests, is)) (omega (arith, many))
two_at p false x xs is many later first = later (omega (arith, many))

two_there : {P : Type 0} (p : ℕ) (xs : List HaltAt) → 2 ≤ halts_of p xs
    → ((i j : ℕ) (x y : HaltAt) → i < j → slice_get xs i ≡ Some x → slice_get xs j ≡ Some y → x.proc.0 ≡ p → y.proc.0 ≡ p → P) → P
two_there p [] many then = absurd (omega (arith, many))
two_there p (x ∷ xs) many then =
    two_at p (x.proc.0 == p) x xs refl many
    (λ more. two_there p xs more (λ i j y z less one other same_y same_z. then (suc i) (suc j) y z (omega (arith, less)) one other same_y same_z))
    (λ same more. one_there p xs more (λ j z there same_z. then 0 (suc j) x z (omega arith) refl there same same_z))

restarts_back : (restarts : List RestartAt) (p f : ℕ) → RestartsBy restarts p f → list_any (is_restart_by p f) restarts ≡ true
restarts_back restarts p f by = any_passes (is_restart_by p f) restarts by.place by.restart by.there
    (let same = by.proc in let early = by.frame in grind (arith, nat_tests, same, early))

may_by : (restarts : List RestartAt) (n p f : ℕ) → n ≤ 1 → (1 ≤ n → RestartsBy restarts p f) → (n == 0 || (n == 1 && list_any (is_restart_by p f) restarts)) ≡ true
may_by restarts zero p f few again = refl
may_by restarts (suc zero) p f few again = rw (restarts_back restarts p f (again (omega arith))) refl
may_by restarts (suc (suc n)) p f few again = absurd (omega (arith, few))

few_before : (xs ys : List HaltAt) (h : HaltAt) (n : ℕ) → n ≡ halts_of h.proc.0 xs → AtMostTwice (xs ++ h ∷ ys) → n ≤ 1
few_before xs ys h zero is twice = omega arith
few_before xs ys h (suc zero) is twice = omega arith
few_before xs ys h (suc (suc n)) is twice = absurd (two_there h.proc.0 xs (omega (arith, is))
    (λ i j x y less one other same_x same_y.
    twice i j (length xs) x y h less (slice_get_within xs j y other) (front xs (h ∷ ys) i x one) (front xs (h ∷ ys) j y other) (seam xs ys h) (same_x ∙ sym same_y) same_x))

pub may_halt_by : (restarts : List RestartAt) (xs ys : List HaltAt) (h : HaltAt) → AtMostTwice (xs ++ h ∷ ys) → EachLater (Again restarts) (xs ++ h ∷ ys) → may_halt restarts xs h ≡ true
may_halt_by restarts xs ys h twice again =
    may_by restarts (halts_of h.proc.0 xs) h.proc.0 h.frame (few_before xs ys h (halts_of h.proc.0 xs) refl twice)
    (λ some. one_there h.proc.0 xs some (λ i x there same. later_at (Again restarts) xs ys h x i again there same))

abbrev pub Apart : HaltAt → HaltAt → Type 0
Apart a b = a.proc.0 ≡ b.proc.0 → ⊥

pub apart_without_restarts : (halts : List HaltAt) → EachLater (Again []) halts → EachLater Apart halts
apart_without_restarts halts again i j x y less one other same = let by = again i j x y less one other same in let there = by.there in absurd cc

abbrev pub proc_of : HaltAt → ℕ
proc_of h = h.proc.0

other_procs : (p : ℕ) (xs : List HaltAt) → ((i : ℕ) (y : HaltAt) → slice_get xs i ≡ Some y → p ≡ y.proc.0 → ⊥) → AllByRecursion (λ (q : ℕ). (p == q) ≡ false) (map proc_of xs)
other_procs p [] apart = tt
other_procs p (x ∷ xs) apart =
    let here = apart 0 x refl in (grind (arith, nat_tests, here), other_procs p xs (λ i y there same. apart (suc i) y there same))

procs_distinct : (xs : List HaltAt) → EachLater Apart xs → IsDistinct (λ (p q : ℕ). p == q) (map proc_of xs)
unfolding IsDistinct
procs_distinct [] apart = tt
procs_distinct (x ∷ xs) apart = (
  other_procs x.proc.0 xs (λ i y there same. apart 0 (suc i) x y (omega arith) refl there same),
  procs_distinct xs (λ i j y z less one other same. apart (suc i) (suc j) y z (omega (arith, less)) one other same),
)

procs_below : (n : ℕ) (xs : List HaltAt) → Each (λ (h : HaltAt). h.proc.0 < n) xs → (q : ℕ) → list_any (λ (p : ℕ). q == p) (map proc_of xs) ≡ true → q < n
procs_below n [] below q some = absurd cc
procs_below n (x ∷ xs) below q some = elim (or_cases (q == x.proc.0) (list_any (λ (p : ℕ). q == p) (map proc_of xs)) some) [
  | inl same ↦ let first = below 0 x refl in grind (arith, nat_tests, same, first)
  | inr rest ↦ procs_below n xs (λ i y there. below (suc i) y there) q rest
]

-- If each processor halts at most once, there are at most `n` halts of the first `n` processors.
pub halts_few : (n : ℕ) (xs : List HaltAt) → EachLater Apart xs → Each (λ (h : HaltAt). h.proc.0 < n) xs → length xs ≤ n
halts_few n xs apart below =
    let few = length-le_from_distinct_below (map proc_of xs) n (procs_distinct xs apart) (procs_below n xs below) in
    let same = length-map xs proc_of in omega (arith, few, same)
