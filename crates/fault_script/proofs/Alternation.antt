-- If each halt is one that its processor may have, no processor halts three times, and no processor halts a second
-- time before its restart.
use Rattle.std.proofs.Common.{◌≡◌, ◌≤◌, ◌<◌, ◌==◌, ℕ, zero, suc, true, ◌&&◌, List, [], ◌∷◌, ◌++◌, arith, ap, sym, ◌∙◌, inl, inr, ◌||◌, subst, append-nil, append_assoc}
use Rattle.std.specs.Prelude.{Some, Ok, slice_get, nat_le, ⊤}
use Rattle.std.specs.List.{list_any}
use Rattle.std.proofs.lemmas.Bool.{and_parts, or_cases}
use Rattle.std.proofs.lemmas.Bool.Decides.{nat_tests}
use Rattle.std.proofs.lemmas.Option.{same_Some}
use Rattle.scram_types.specs.declared.scripts.HaltAt.{HaltAt}
use Rattle.scram_types.specs.declared.scripts.RestartAt.{RestartAt}
use Rattle.fault_script.specs.Fits.{AtMostTwice, EachLater, RestartsBy}
use Rattle.fault_script.specs.Orders.{halts_of, is_restart_by, may_halt}
use Rattle.fault_script.specs.Reading.{check_halts}
use Rattle.fault_script.proofs.Ends.{Place, before, end, each_later_end, each_later_none, place_of}
use Rattle.fault_script.proofs.Taken.{chain_ok, kept_ok, some_passes}

one_of : (p : ℕ) (xs : List HaltAt) (i : ℕ) (y : HaltAt) → slice_get xs i ≡ Some y → y.proc.0 ≡ p → 1 ≤ halts_of p xs
one_of p [] i y e same = absurd cc
one_of p (x ∷ xs) zero y e same =
    let here : x.proc.0 ≡ p = ap (λ (h : HaltAt). h.proc.0) (same_Some x y e) ∙ same in grind (arith, nat_tests, here)
one_of p (x ∷ xs) (suc i) y e same = let rest = one_of p xs i y e same in omega (arith, rest)

two_of : (p : ℕ) (xs : List HaltAt) (i j : ℕ) (y z : HaltAt) → i < j → slice_get xs i ≡ Some y → slice_get xs j ≡ Some z → y.proc.0 ≡ p → z.proc.0 ≡ p → 2 ≤ halts_of p xs
two_of p [] i j y z less e f same_y same_z = absurd cc
two_of p (x ∷ xs) i zero y z less e f same_y same_z = absurd (omega (arith, less))
two_of p (x ∷ xs) zero (suc j) y z less e f same_y same_z =
    let here : x.proc.0 ≡ p = ap (λ (h : HaltAt). h.proc.0) (same_Some x y e) ∙ same_y in
    let rest = one_of p xs j z f same_z in
    grind (arith, nat_tests, here, rest)
two_of p (x ∷ xs) (suc i) (suc j) y z less e f same_y same_z =
    let rest = two_of p xs i j y z (omega (arith, less)) e f same_y same_z in omega (arith, rest)

abbrev pub Again : List RestartAt → HaltAt → HaltAt → Type 0
Again restarts a b = a.proc.0 ≡ b.proc.0 → RestartsBy restarts b.proc.0 b.frame

-- If a processor has an earlier halt and may halt again, it has restarted in the frame of the new halt or an earlier
-- one.
again_by : (restarts : List RestartAt) (n : ℕ) (p f : ℕ) → 1 ≤ n → (n == 0 || (n == 1 && list_any (is_restart_by p f) restarts)) ≡ true → RestartsBy restarts p f
again_by restarts n p f some may = elim (or_cases (n == 0) (n == 1 && list_any (is_restart_by p f) restarts) may) [
  | inl none ↦ absurd (grind (arith, nat_tests, none, some))
  | inr once ↦ some_passes (is_restart_by p f) restarts (and_parts (n == 1) (list_any (is_restart_by p f) restarts) once).1
      (λ i r there passes. let parts = and_parts (r.proc.0 == p) (nat_le r.frame f) passes in
      record { place = i; restart = r; there = there; proc = grind (arith, nat_tests, parts.0); frame = grind (arith, nat_tests, parts.1) })
]

at_most_one : (restarts : List RestartAt) (n : ℕ) (p f : ℕ) → (n == 0 || (n == 1 && list_any (is_restart_by p f) restarts)) ≡ true → n ≤ 1
at_most_one restarts n p f may = elim (or_cases (n == 0) (n == 1 && list_any (is_restart_by p f) restarts) may) [
  | inl none ↦ grind (arith, nat_tests, none)
  | inr once ↦ let parts = and_parts (n == 1) (list_any (is_restart_by p f) restarts) once in grind (arith, nat_tests, parts.0)
]

pub record Alternate (restarts : List RestartAt) (halts : List HaltAt) : Type 0 where
  pub twice : AtMostTwice halts
  pub again : EachLater (Again restarts) halts

thrice : (xs : List HaltAt) (h : HaltAt) → AtMostTwice xs → halts_of h.proc.0 xs ≤ 1 → (i j k : ℕ) (x y z : HaltAt) → i < j → j < k
    → Place xs h i x → Place xs h j y → Place xs h k z → x.proc.0 ≡ y.proc.0 → x.proc.0 ≡ z.proc.0 → ⊥
thrice xs h twice few i j k x y z ij jk (before p _) (before q _) (before r _) xy xz = twice i j k x y z ij jk p q r xy xz
thrice xs h twice few i j k x y z ij jk (before p _) (before q _) (end _ same) xy xz =
    let of_h : z.proc.0 ≡ h.proc.0 = ap (λ (g : HaltAt). g.proc.0) same in
    let two = two_of h.proc.0 xs i j x y ij p q (xz ∙ of_h) (sym xy ∙ xz ∙ of_h) in omega (arith, two, few)
thrice xs h twice few i j k x y z ij jk (end at _) (before _ within) r xy xz = omega (arith, at, within, ij)
thrice xs h twice few i j k x y z ij jk (end at _) (end at_next _) r xy xz = omega (arith, at, at_next, ij)
thrice xs h twice few i j k x y z ij jk (before _ _) (end at _) (before _ within) xy xz = omega (arith, at, within, jk)
thrice xs h twice few i j k x y z ij jk (before _ _) (end at _) (end at_last _) xy xz = omega (arith, at, at_last, jk)

pub alternate_none : (restarts : List RestartAt) → Alternate restarts []
alternate_none restarts = record { twice = λ i j k x y z ij jk e. absurd cc; again = each_later_none (Again restarts) }

alternate_end : (restarts : List RestartAt) (xs : List HaltAt) (h : HaltAt) → Alternate restarts xs → may_halt restarts xs h ≡ true → Alternate restarts (xs ++ h ∷ [])
alternate_end restarts xs h so_far may = record {
  twice = λ i j k x y z ij jk p q r. thrice xs h so_far.twice (at_most_one restarts (halts_of h.proc.0 xs) h.proc.0 h.frame may)
      i j k x y z ij jk (place_of xs h i x p) (place_of xs h j y q) (place_of xs h k z r);
  again = each_later_end (Again restarts) xs h so_far.again
      (λ i y there same. again_by restarts (halts_of h.proc.0 xs) h.proc.0 h.frame (one_of h.proc.0 xs i y there same) may);
}

pub halts_alternate : (restarts : List RestartAt) (at : List ℕ) (i : ℕ) (xs halts : List HaltAt) (u : ⊤) → Alternate restarts xs
    → check_halts restarts at i xs halts ≡ Ok u → Alternate restarts (xs ++ halts)
halts_alternate restarts at i xs [] u so_far e = subst (Alternate restarts) (sym (append-nil xs)) so_far
halts_alternate restarts at i xs (h ∷ halts) u so_far e =
    chain_ok _ _ u e (λ v kept rest.
    subst (Alternate restarts) (append_assoc xs (h ∷ []) halts)
    (halts_alternate restarts at (suc i) (xs ++ h ∷ []) halts u (alternate_end restarts xs h so_far (kept_ok _ _ _ v kept)) rest))
