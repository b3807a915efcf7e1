-- The lists of faults in a family are in order.
use Rattle.std.proofs.Common.{◌≡◌, ◌∙◌, ℕ, zero, suc, ◌+◌, ◌<◌, ◌≤◌, Bool, true, false, List, [], ◌∷◌, ◌++◌, length, map, append_assoc, arith, ap, refl, sym, subst, nat_lt}
use mathlib.Core.Logic.{inl, inr}
use Rattle.std.specs.Prelude.{◌&&◌, ◌==◌, Some, None, Option, flat_map, slice_get, if◌then◌else◌}
use Rattle.std.proofs.lemmas.Bool.Decides.{nat_tests}
use Rattle.std.proofs.lemmas.Option.{same_Some}
use Rattle.scram_types.proofs.Booleans.{or_left, or_right}
use Rattle.scram_types.specs.Lookups.{factor_id, proc_id}
use Rattle.scram_types.specs.Searches.{listed_below}
use Rattle.scram_types.specs.Specification.{Each, Parts}
use Rattle.scram_types.specs.declared.specification.Bound.{Bound}
use Rattle.coverage_check.specs.Acceptance.{Accepts}
use Rattle.coverage_check.specs.Timing.{greatest_bound}
use Rattle.fault_script.specs.Fits.{EachLater}
use Rattle.fault_script.specs.Orders.{comes_after, last_of}
use Rattle.fault_script.specs.Times.{words}
use Rattle.fault_script.proofs.Ends.{each_later_none, each_later_one}
use Rattle.fault_family.specs.declared.faults.Fault.{Fault}
use Rattle.fault_family.specs.declared.faults.FaultKind.{FaultKind}
use Rattle.fault_family.specs.declared.faults.FaultKind.TheVariants.{Change, Halt, Restart}
use Rattle.fault_family.specs.Families.{extended, may_follow}
use Rattle.fault_family.specs.Faults.{detail, precedes, rank, subject}
use Rattle.fault_family.specs.Laws.{ComesFirst, Contains, FamiliesAreOrdered, here, further}
use Rattle.fault_family.specs.NextFaults.{candidates, factor_changes, faults_in, frames_after, frames_allowed_after, gaps, proc_halts, kinds_of, numbers_below, restarts_of, factor_value_count}
use Rattle.fault_family.specs.Scripts.{is_within, script_of_faults}
use Rattle.fault_family.proofs.Joined.{stands_in_part, stands_listed, stands_mapped, stands_one, stands_part, stands_where}
use Rattle.fault_family.proofs.Members.{GoesOn, goes_on}
use Rattle.fault_family.proofs.MemberScripts.{rest_later}

-- Lemmas on the order of joined lists.

later_cons : {A : Type 0} (R : A → A → Type 0) (x : A) (xs : List A) → ((y : A) → Contains xs y → R x y) → EachLater R xs → EachLater R (x ∷ xs)
later_cons R x xs first each zero zero y z less p q = absurd (omega (arith, less))
later_cons R x xs first each zero (suc j) y z less p q = subst (λ w. R w z) (same_Some x y p) (first z (j, q))
later_cons R x xs first each (suc i) zero y z less p q = absurd (omega (arith, less))
later_cons R x xs first each (suc i) (suc j) y z less p q = each i j y z (omega (arith, less)) p q

later_joined : {A : Type 0} (R : A → A → Type 0) (xs ys : List A) → EachLater R xs → EachLater R ys → ((x y : A) → Contains xs x → Contains ys y → R x y) → EachLater R (xs ++ ys)
later_joined R [] ys first second across = second
later_joined R (x ∷ xs) ys first second across =
    later_cons R x (xs ++ ys)
    (λ y stands. elim (stands_part xs ys y stands) [ inl earlier ↦ first 0 (suc earlier.0) x y (omega arith) refl earlier.1 | inr later ↦ across x y (0, refl) later ])
    (later_joined R xs ys (rest_later R x xs first) second (λ w y stands. across w y (suc stands.0, stands.1)))

later_parts : {A B : Type 0} (R : A → A → Type 0) (S : B → B → Type 0) (f : A → List B) → ((x : A) → EachLater S (f x))
    → ((x y : A) (a b : B) → R x y → Contains (f x) a → Contains (f y) b → S a b) → (xs : List A) → EachLater R xs → EachLater S (flat_map f xs)
later_parts R S f within across [] each = each_later_none S
later_parts R S f within across (x ∷ xs) each =
    later_joined S (f x) (flat_map f xs) (within x) (later_parts R S f within across xs (rest_later R x xs each))
    (λ a b first second.
    let part = stands_in_part f xs b second in
    across x part.0 a b (each 0 (suc part.1.0) x part.0 (omega arith) refl part.1.1) first part.2)

later_mapped : {A B : Type 0} (R : A → A → Type 0) (S : B → B → Type 0) (f : A → B) → ((x y : A) → R x y → S (f x) (f y)) → (xs : List A) → EachLater R xs → EachLater S (map f xs)
later_mapped R S f lift [] each = each_later_none S
later_mapped R S f lift (x ∷ xs) each =
    later_cons S (f x) (map f xs)
    (λ b stands. let found = stands_mapped f xs b stands in subst (S (f x)) found.2 (lift x found.0 (each 0 (suc found.1.0) x found.0 (omega arith) refl found.1.1)))
    (later_mapped R S f lift xs (rest_later R x xs each))

later_listed : {A : Type 0} (R : A → A → Type 0) (value : ℕ → A) (n : ℕ) → ((i j : ℕ) → i < j → R (value i) (value j)) → EachLater R (listed_below value n)
later_listed R value zero rises = each_later_none R
later_listed R value (suc n) rises =
    later_joined R (listed_below value n) (value n ∷ []) (later_listed R value n rises) (each_later_one R (value n))
    (λ x y first last.
    let at = stands_listed value n x first in
    subst (λ z. R z y) at.2 (subst (R (value at.0)) (stands_one (value n) y last) (rises at.0 n at.1)))

-- Lemmas on the order of the kinds of fault in one frame.

after_first : (a b c d : ℕ) → a < c → comes_after a b c d ≡ true
after_first a b c d less = or_left (nat_lt a c) (a == c && nat_lt b d) (grind (arith, nat_tests, less))

after_second : (a b d : ℕ) → b < d → comes_after a b a d ≡ true
after_second a b d less =
    let same : (a == a) ≡ true = grind (arith, nat_tests) in
    let below : nat_lt b d ≡ true = grind (arith, nat_tests, less) in
    or_right (nat_lt a a) (a == a && nat_lt b d) (rw (same, below) refl)

-- In each frame, a fault of the first kind comes before a fault of the second kind.
KindBefore : FaultKind → FaultKind → Type 0
KindBefore k l = (f : ℕ) → precedes (record { frame = f; kind = k }) (record { frame = f; kind = l }) ≡ true

by_rank : (k l : FaultKind) → rank k < rank l → KindBefore k l
unfolding KindBefore
by_rank k l less f = or_left (comes_after f (rank k) f (rank l)) _ (after_second f (rank k) (rank l) less)

by_subject : (k l : FaultKind) → rank k ≡ rank l → comes_after (subject k) (detail k) (subject l) (detail l) ≡ true → KindBefore k l
unfolding KindBefore
by_subject k l same after f =
    let frames : (f == f) ≡ true = grind (arith, nat_tests) in
    let ranks : (rank k == rank l) ≡ true = grind (arith, nat_tests, same) in
    or_right (comes_after f (rank k) f (rank l)) _ (rw (frames, ranks, after) refl)

module _ (spec : Parts) where
  changes_ordered : (x : ℕ) → EachLater KindBefore (factor_changes spec x)
  changes_ordered x = later_listed KindBefore (λ value. Change (factor_id x) value) (factor_value_count spec x) (λ i j less. by_subject (Change (factor_id x) i) (Change (factor_id x) j) refl (after_second x i j less))

  all_changes_ordered : EachLater KindBefore (flat_map (factor_changes spec) (numbers_below (length spec.factors)))
  all_changes_ordered =
      later_parts (λ (x y : ℕ). x < y) KindBefore (factor_changes spec) changes_ordered
      (λ x y k l less first second.
      let a = stands_listed (λ value. Change (factor_id x) value) (factor_value_count spec x) k first in
      let b = stands_listed (λ value. Change (factor_id y) value) (factor_value_count spec y) l second in
      subst (λ m. KindBefore m l) a.2 (subst (KindBefore (Change (factor_id x) a.0)) b.2 (by_subject (Change (factor_id x) a.0) (Change (factor_id y) b.0) refl (after_first x a.0 y b.0 less))))
      (numbers_below (length spec.factors)) (later_listed (λ (x y : ℕ). x < y) (λ k. k) (length spec.factors) (λ i j less. less))

  halts_ordered : (p : ℕ) → EachLater KindBefore (proc_halts spec p)
  halts_ordered p =
      later_cons KindBefore (Halt (proc_id p) 0) (Halt (proc_id p) (words spec + 1) ∷ [])
      (λ k stands. subst (KindBefore (Halt (proc_id p) 0)) (stands_one (Halt (proc_id p) (words spec + 1)) k stands)
      (by_subject (Halt (proc_id p) 0) (Halt (proc_id p) (words spec + 1)) refl (after_second p 0 (words spec + 1) (omega arith))))
      (each_later_one KindBefore (Halt (proc_id p) (words spec + 1)))

  halt_is : (p : ℕ) (k : FaultKind) → Contains (proc_halts spec p) k → (step : ℕ) × (Halt (proc_id p) step ≡ k)
  halt_is p k stands = at stands.0 stands.1
    where
      at : (i : ℕ) → slice_get (proc_halts spec p) i ≡ Some k → (step : ℕ) × (Halt (proc_id p) step ≡ k)
      at zero there = (0, same_Some (Halt (proc_id p) 0) k there)
      at (suc zero) there = (words spec + 1, same_Some (Halt (proc_id p) (words spec + 1)) k there)
      at (suc (suc i)) there = absurd cc

  all_halts_ordered : EachLater KindBefore (flat_map (proc_halts spec) (numbers_below (length spec.procs)))
  all_halts_ordered =
      later_parts (λ (x y : ℕ). x < y) KindBefore (proc_halts spec) halts_ordered
      (λ p q k l less first second.
      let a = halt_is p k first in
      let b = halt_is q l second in
      subst (λ m. KindBefore m l) a.1 (subst (KindBefore (Halt (proc_id p) a.0)) b.1 (by_subject (Halt (proc_id p) a.0) (Halt (proc_id q) b.0) refl (after_first p a.0 q b.0 less))))
      (numbers_below (length spec.procs)) (later_listed (λ (x y : ℕ). x < y) (λ k. k) (length spec.procs) (λ i j less. less))

  restarts_ordered : EachLater KindBefore (restarts_of spec)
  restarts_ordered = later_listed KindBefore (λ p. Restart (proc_id p)) (length spec.procs) (λ i j less. by_subject (Restart (proc_id i)) (Restart (proc_id j)) refl (after_first i 0 j 0 less))

  change_rank : (k : FaultKind) → Contains (flat_map (factor_changes spec) (numbers_below (length spec.factors))) k → rank k ≡ 0
  change_rank k stands =
      let part = stands_in_part (factor_changes spec) (numbers_below (length spec.factors)) k stands in
      let at = stands_listed (λ value. Change (factor_id part.0) value) (factor_value_count spec part.0) k part.2 in
      ap rank (sym at.2)

  halt_rank : (k : FaultKind) → Contains (flat_map (proc_halts spec) (numbers_below (length spec.procs))) k → rank k ≡ 1
  halt_rank k stands =
      let part = stands_in_part (proc_halts spec) (numbers_below (length spec.procs)) k stands in
      let at = halt_is part.0 k part.2 in
      ap rank (sym at.1)

  restart_rank : (k : FaultKind) → Contains (restarts_of spec) k → rank k ≡ 2
  restart_rank k stands = let at = stands_listed (λ p. Restart (proc_id p)) (length spec.procs) k stands in ap rank (sym at.2)

  kinds_ordered : EachLater KindBefore (kinds_of spec)
  kinds_ordered =
      let changes = flat_map (factor_changes spec) (numbers_below (length spec.factors)) in
      let halts = flat_map (proc_halts spec) (numbers_below (length spec.procs)) in
      later_joined KindBefore (changes ++ halts) (restarts_of spec)
      (later_joined KindBefore changes halts all_changes_ordered all_halts_ordered
      (λ k l first second. let a = change_rank k first in let b = halt_rank l second in by_rank k l (omega (arith, a, b))))
      restarts_ordered
      (λ k l first second.
      let b = restart_rank l second in
      elim (stands_part changes halts k first) [
        | inl change ↦ (let a = change_rank k change in by_rank k l (omega (arith, a, b)))
        | inr halt ↦ (let a = halt_rank k halt in by_rank k l (omega (arith, a, b)))
      ])

  faults_ordered : (frame : ℕ) → EachLater (λ (a b : Fault). precedes a b ≡ true) (faults_in spec frame)
  unfolding KindBefore
  faults_ordered frame = later_mapped KindBefore (λ (a b : Fault). precedes a b ≡ true) (λ (kind : FaultKind). record { frame = frame; kind = kind }) (λ k l before. before frame) (kinds_of spec) kinds_ordered

bounds_within : (bounds : List Bound) (window : ℕ) → 1 ≤ window → Each (λ (bound : Bound). bound.frames + 1 ≤ window) bounds → greatest_bound bounds + 1 ≤ window
bounds_within [] window some each = omega (arith, some)
bounds_within (bound ∷ bounds) window some each =
    let first = each 0 bound refl in
    let rest = bounds_within bounds window some (λ i b there. each (suc i) b there) in
    omega (arith, first, rest)

module _ (spec : Parts) (accepts : Accepts spec) (some : 1 ≤ spec.window) where
  gaps_rise : EachLater (λ (x y : ℕ). x < y) (gaps spec)
  gaps_rise =
      let long = bounds_within spec.bounds spec.window some accepts.windowed in
      later_joined (λ (x y : ℕ). x < y) (numbers_below (greatest_bound spec.bounds + 2)) ((spec.window + 1) ∷ [])
      (later_listed (λ (x y : ℕ). x < y) (λ k. k) (greatest_bound spec.bounds + 2) (λ i j less. less)) (each_later_one (λ (x y : ℕ). x < y) (spec.window + 1))
      (λ x y near far.
      let at = stands_listed (λ k. k) (greatest_bound spec.bounds + 2) x near in
      let below = at.1 in
      let same = at.2 in
      let end = stands_one (spec.window + 1) y far in
      omega (arith, long, below, same, end))

  frames_rise : (last : Option Fault) → EachLater (λ (x y : ℕ). x < y) (frames_allowed_after spec last)
  frames_rise None = each_later_one (λ (x y : ℕ). x < y) 1
  frames_rise (Some last) = later_mapped (λ (x y : ℕ). x < y) (λ (x y : ℕ). x < y) (λ gap. last.frame + gap) (λ x y less. omega (arith, less)) (gaps spec) gaps_rise

  candidates_ordered : (before : List Fault) → EachLater (λ (a b : Fault). precedes a b ≡ true) (candidates spec before)
  candidates_ordered before =
      later_parts (λ (x y : ℕ). x < y) (λ (a b : Fault). precedes a b ≡ true) (faults_in spec) (faults_ordered spec)
      (λ f g a b less first second.
      let x = stands_mapped (λ (kind : FaultKind). record { frame = f; kind = kind }) (kinds_of spec) a first in
      let y = stands_mapped (λ (kind : FaultKind). record { frame = g; kind = kind }) (kinds_of spec) b second in
      subst (λ (c : Fault). precedes c b ≡ true) x.2
      (subst (λ (c : Fault). precedes (record { frame = f; kind = x.0 }) c ≡ true) y.2
      (or_left (comes_after f (rank x.0) g (rank y.0)) _ (after_first f (rank x.0) g (rank y.0) less))))
      (frames_after spec before) (frames_rise (last_of before))

  comes_first_behind : (before faults others : List Fault) → ComesFirst faults others → ComesFirst (before ++ faults) (before ++ others)
  comes_first_behind [] faults others first = first
  comes_first_behind (fault ∷ before) faults others first = further fault (before ++ faults) (before ++ others) (comes_first_behind before faults others first)

  -- Lemmas on two scripts that continue with different faults.
  apart_first : (more : ℕ) (before : List Fault) (c d : Fault) (a b : List Fault) → precedes c d ≡ true → GoesOn spec more (before ++ c ∷ []) a → GoesOn spec more (before ++ d ∷ []) b → ComesFirst a b
  apart_first more before c d a b first on other =
      subst (λ (l : List Fault). ComesFirst l b) (sym (append_assoc before (c ∷ []) on.rest) ∙ on.parts)
      (subst (λ (l : List Fault). ComesFirst (before ++ c ∷ on.rest) l) (sym (append_assoc before (d ∷ []) other.rest) ∙ other.parts)
      (comes_first_behind before (c ∷ on.rest) (d ∷ other.rest) (here c d on.rest other.rest first)))

  branch : ℕ → List Fault → Fault → List (List Fault)
  branch more before fault = if may_follow spec before fault then extended spec more (before ++ fault ∷ []) else []

  where_ordered : (b : Bool) (xs : List (List Fault)) → EachLater ComesFirst xs → EachLater ComesFirst (if b then xs else [])
  where_ordered true xs ordered = ordered
  where_ordered false xs ordered = each_later_none ComesFirst

  extended_ordered : (more : ℕ) (before : List Fault) → EachLater ComesFirst (extended spec more before)
  unfolding branch
  extended_ordered zero before = where_ordered (is_within spec (script_of_faults spec before)) (before ∷ []) (each_later_one ComesFirst before)
  extended_ordered (suc more) before =
      later_parts (λ (a b : Fault). precedes a b ≡ true) ComesFirst (branch more before)
      (λ fault. where_ordered (may_follow spec before fault) (extended spec more (before ++ fault ∷ [])) (extended_ordered more (before ++ fault ∷ [])))
      (λ c d a b first in_c in_d.
      let on = stands_where (may_follow spec before c) (extended spec more (before ++ c ∷ [])) a in_c in
      let other = stands_where (may_follow spec before d) (extended spec more (before ++ d ∷ [])) b in_d in
      apart_first more before c d a b first (goes_on spec more (before ++ c ∷ []) a on.1) (goes_on spec more (before ++ d ∷ []) b other.1))
      (candidates spec before) (candidates_ordered before)

-- No fault comes before itself.
not_before_itself : (fault : Fault) → precedes fault fault ≡ true → ⊥
not_before_itself fault before = absurd (grind (arith, nat_tests, before))

head_of : Fault → List Fault → Fault
head_of other [] = other
head_of other (fault ∷ faults) = fault

tail_of : List Fault → List Fault
tail_of [] = []
tail_of (fault ∷ faults) = faults

first_differs : (faults others : List Fault) → ComesFirst faults others → faults ≡ others → ⊥
unfolding head_of tail_of
first_differs _ _ (here fault next faults others before) same =
    let alike : fault ≡ next = ap (head_of fault) same in
    not_before_itself fault (subst (λ (other : Fault). precedes fault other ≡ true) (sym alike) before)
first_differs _ _ (further fault faults others first) same = first_differs faults others first (ap tail_of same)

pub families_are_ordered : FamiliesAreOrdered
families_are_ordered spec count is accepts = record {
  ordered = extended_ordered spec accepts is.window_least count [];
  once = λ i j faults others less p q. first_differs faults others (extended_ordered spec accepts is.window_least count [] i j faults others less p q);
}
