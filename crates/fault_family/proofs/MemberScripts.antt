-- The script of a member fits the specification.
use Rattle.std.proofs.Common.{◌≡◌, ℕ, zero, suc, ◌+◌, ◌*◌, ◌-◌, ◌<◌, ◌≤◌, true, false, List, [], ◌∷◌, ◌++◌, length, append_assoc, append-nil, length-append, arith, ap, refl, sym, subst, nat_lt}
use mathlib.Core.Logic.{inl, inr}
use Rattle.std.specs.Prelude.{◌&&◌, ◌||◌, ◌==◌, Some, None, Option, filter_map}
use Rattle.std.specs.List.{cons_option, list_all}
use Rattle.std.specs.Option.{option_map_or}
use Rattle.std.proofs.lemmas.Bool.{and_parts, not-true, or_cases}
use Rattle.std.proofs.lemmas.Bool.Decides.{nat_tests}
use Rattle.std.proofs.lemmas.List.Elements.{filter_map-append}
use Rattle.std.proofs.lemmas.Option.{same_Some}
use Rattle.scram_types.proofs.Booleans.{by_bool, true_false}
use Rattle.scram_types.proofs.Items.{each_passes, first_part, next_part, each_end}
use Rattle.scram_types.specs.declared.scripts.Change.{Change}
use Rattle.scram_types.specs.declared.scripts.HaltAt.{HaltAt}
use Rattle.scram_types.specs.declared.scripts.RestartAt.{RestartAt}
use Rattle.scram_types.specs.Specification.{Each, IsSpec, Parts}
use Rattle.fault_script.specs.Fits.{Before, ChangeBefore, EachLater, EachNext, Fits, HaltsWellBefore, IsChange, IsHalt, IsRestart}
use Rattle.fault_script.specs.Orders.{comes_after, last_of}
use Rattle.fault_script.proofs.Ends.{each_later_end, each_later_none, each_none}
use Rattle.fault_script.proofs.Fitting.{halted_well_before}
use Rattle.fault_family.specs.declared.faults.Fault.{Fault}
use Rattle.fault_family.specs.declared.faults.FaultKind.{FaultKind}
use Rattle.fault_family.specs.declared.faults.FaultKind.TheVariants as kind
use Rattle.fault_family.specs.Families.{differs_in}
use Rattle.fault_family.specs.Faults.{may_come_after, precedes, repeats}
use Rattle.fault_family.specs.Laws.{Follow, IsKind, IsNear, IsNextFault, MembersFit}
use Rattle.fault_family.specs.Scripts.{change_fault_in, change_of_fault, frames_of_faults, halt_fault_in, halt_of_fault, last_fault_frame, restart_fault_in, restart_of_fault, script_of_faults}
use Rattle.fault_family.proofs.Counting.{greatest_within}

-- Lemmas on `filter_map`, which lists the values of a function that returns an optional value for each element.

each_more : {B : Type 0} (P : B → Type 0) (o : Option B) (ys : List B) → ((b : B) → o ≡ Some b → P b) → Each P ys → Each P (cons_option o ys)
each_more P None ys first each = each
each_more P (Some b) ys first each = at
  where
    at : Each P (b ∷ ys)
    at zero y there = subst P (same_Some b y there) (first b refl)
    at (suc i) y there = each i y there

later_more : {B : Type 0} (R : B → B → Type 0) (o : Option B) (ys : List B) → ((b : B) → o ≡ Some b → Each (R b) ys) → EachLater R ys → EachLater R (cons_option o ys)
later_more R None ys first each = each
later_more R (Some b) ys first each = at
  where
    at : EachLater R (b ∷ ys)
    at zero zero x y less p q = absurd (omega (arith, less))
    at zero (suc j) x y less p q = subst (λ z. R z y) (same_Some b x p) (first b refl j y q)
    at (suc i) zero x y less p q = absurd (omega (arith, less))
    at (suc i) (suc j) x y less p q = each i j x y (omega (arith, less)) p q

rest_each : {A : Type 0} (P : A → Type 0) (x : A) (xs : List A) → Each P (x ∷ xs) → Each P xs
rest_each P x xs each i y there = each (suc i) y there

pub rest_later : {A : Type 0} (R : A → A → Type 0) (x : A) (xs : List A) → EachLater R (x ∷ xs) → EachLater R xs
rest_later R x xs each i j y z less p q = each (suc i) (suc j) y z (omega (arith, less)) p q

module _ {A B : Type 0} (h : A → Option B) where
  each_given : (P : A → Type 0) (Q : B → Type 0) → ((x : A) (b : B) → h x ≡ Some b → P x → Q b) → (xs : List A) → Each P xs → Each Q (filter_map h xs)
  each_given P Q lift [] each = each_none Q
  each_given P Q lift (x ∷ xs) each =
      each_more Q (h x) (filter_map h xs) (λ b is. lift x b is (each 0 x refl)) (each_given P Q lift xs (rest_each P x xs each))

  later_given : (R : A → A → Type 0) (S : B → B → Type 0) → ((x y : A) (a b : B) → h x ≡ Some a → h y ≡ Some b → R x y → S a b) → (xs : List A) → EachLater R xs → EachLater S (filter_map h xs)
  later_given R S lift [] each = each_later_none S
  later_given R S lift (x ∷ xs) each =
      later_more S (h x) (filter_map h xs)
      (λ a is. each_given (R x) (S a) (λ y b other related. lift x y a b is other related) xs (λ i y there. each 0 (suc i) x y (omega arith) refl there))
      (later_given R S lift xs (rest_later R x xs each))

  few_given : (xs : List A) → length (filter_map h xs) ≤ length xs
  few_given [] = omega arith
  few_given (x ∷ xs) = let rest = few_given xs in by_item (h x) rest
    where
      by_item : (o : Option B) → length (filter_map h xs) ≤ length xs → length (cons_option o (filter_map h xs)) ≤ suc (length xs)
      by_item None rest = omega (arith, rest)
      by_item (Some b) rest = omega (arith, rest)

next_later : {A : Type 0} (R : A → A → Type 0) (xs : List A) → EachLater R xs → EachNext R xs
next_later R xs each i x y p q = each i (i + 1) x y (omega arith) p q

-- Lemmas on faults in order.

abbrev Later : Fault → Fault → Type 0
Later fault next = may_come_after next fault ≡ true

-- Facts about the faults of a script. Each fault is of a kind of the specification and may come after the earlier
-- faults. No fault comes before frame 1 or after the frame of the last fault. The frame of the last fault is at most
-- 1001 times the number of faults. Each restart comes two frames or more after a halt of its processor.
record Keeps (spec : Parts) (faults : List Fault) : Type 0 where
  kinds : Each (λ (fault : Fault). IsKind spec fault.kind) faults
  later : EachLater Later faults
  first : Each (λ (fault : Fault). 1 ≤ fault.frame) faults
  last : Each (λ (fault : Fault). fault.frame ≤ last_fault_frame faults) faults
  low : last_fault_frame faults ≤ 1001 * length faults
  halted : Each (λ (fault : Fault). (restart : RestartAt) → restart_of_fault fault ≡ Some restart → HaltsWellBefore (filter_map halt_of_fault faults) restart.proc.0 restart.frame) faults

last_end : (before : List Fault) (fault : Fault) → last_of (before ++ fault ∷ []) ≡ Some fault
last_end before fault =
    let count = length-append before (fault ∷ []) in
    let place : length (before ++ fault ∷ []) - 1 ≡ length before = omega (arith, count) in
    rw place (next_part before [] fault)

frame_end : (before : List Fault) (fault : Fault) → last_fault_frame (before ++ fault ∷ []) ≡ fault.frame
frame_end before fault = ap (λ (o : Option Fault). option_map_or (λ (f : Fault). f.frame) o 0) (last_end before fault)

-- The frame of a fault is at least 1 and at least `last`. It is at most `last + 1001`.
record IsBehind (last frame : ℕ) : Type 0 where
  after : last ≤ frame
  near : frame ≤ last + 1001
  first : 1 ≤ frame

behind_by : (spec : Parts) (o : Option Fault) (frame : ℕ) → IsSpec spec → IsNear spec o frame → ((last : Fault) → o ≡ Some last → 1 ≤ last.frame)
    → IsBehind (option_map_or (λ (f : Fault). f.frame) o 0) frame
behind_by spec None frame is near first = record { after = omega arith; near = omega (arith, near); first = omega (arith, near) }
behind_by spec (Some last) frame is (inl near) first =
    let some = first last refl in
    let low = near.0 in
    let high = near.1 in
    let few = greatest_within spec.bounds 1000 (λ i bound there. (is.bounds i bound there).most) in
    record { after = low; near = omega (arith, high, few); first = omega (arith, some, low) }
behind_by spec (Some last) frame is (inr far) first =
    let few = is.window_most in
    record { after = omega (arith, far); near = omega (arith, far, few); first = omega (arith, far) }

halted_more : (halts more : List HaltAt) (p f : ℕ) → HaltsWellBefore halts p f → HaltsWellBefore (halts ++ more) p f
halted_more halts more p f before = record { place = before.place; halt = before.halt; there = first_part halts more before.place before.halt before.there; proc = before.proc; frame = before.frame }

module _ (spec : Parts) (is : IsSpec spec) where
  restart_halted : (before : List Fault) (frame : ℕ) (k : FaultKind) → differs_in (script_of_faults spec before) frame k ≡ true → (restart : RestartAt) → restart_fault_in frame k ≡ Some restart
      → HaltsWellBefore (filter_map halt_of_fault before) restart.proc.0 restart.frame
  restart_halted before frame (kind.Change factor value) differs restart e = absurd cc
  restart_halted before frame (kind.Halt proc step) differs restart e = absurd cc
  restart_halted before frame (kind.Restart proc) differs restart e =
      subst (λ (r : RestartAt). HaltsWellBefore (filter_map halt_of_fault before) r.proc.0 r.frame) (same_Some _ restart e) (halted_well_before (filter_map halt_of_fault before) proc.0 frame differs)

  keeps_end : (before : List Fault) (fault : Fault) → Keeps spec before → IsNextFault spec before fault → Keeps spec (before ++ fault ∷ [])
  keeps_end before fault keeps next =
      let parts = and_parts (list_all (may_come_after fault) before) (differs_in (script_of_faults spec before) fault.frame fault.kind) next.follows in
      let behind = behind_by spec (last_of before) fault.frame is next.near (λ last there. keeps.first (length before - 1) last there) in
      let after = behind.after in
      let near = behind.near in
      let end = frame_end before fault in
      let low = keeps.low in
      let count = length-append before (fault ∷ []) in
      let halts : filter_map halt_of_fault before ++ filter_map halt_of_fault (fault ∷ []) ≡ filter_map halt_of_fault (before ++ fault ∷ []) = sym (filter_map-append halt_of_fault before (fault ∷ [])) in
      record {
        kinds = each_end (λ (f : Fault). IsKind spec f.kind) before fault keeps.kinds next.kind;
        later = each_later_end Later before fault keeps.later (λ i f there. each_passes (may_come_after fault) before parts.0 i f there);
        first = each_end (λ (f : Fault). 1 ≤ f.frame) before fault keeps.first behind.first;
        last = each_end (λ (f : Fault). f.frame ≤ last_fault_frame (before ++ fault ∷ [])) before fault
            (λ i f there. let earlier = keeps.last i f there in omega (arith, earlier, after, end)) (omega (arith, end));
        low = omega (arith, end, near, low, count);
        halted = each_end (λ (f : Fault). (restart : RestartAt) → restart_of_fault f ≡ Some restart → HaltsWellBefore (filter_map halt_of_fault (before ++ fault ∷ [])) restart.proc.0 restart.frame) before fault
            (λ i f there restart e. subst (λ (hs : List HaltAt). HaltsWellBefore hs restart.proc.0 restart.frame) halts
            (halted_more (filter_map halt_of_fault before) (filter_map halt_of_fault (fault ∷ [])) restart.proc.0 restart.frame (keeps.halted i f there restart e)))
            (λ restart e. subst (λ (hs : List HaltAt). HaltsWellBefore hs restart.proc.0 restart.frame) halts
            (halted_more (filter_map halt_of_fault before) (filter_map halt_of_fault (fault ∷ [])) restart.proc.0 restart.frame (restart_halted before fault.frame fault.kind parts.1 restart e)));
      }

  keeps_all : (before faults : List Fault) → Keeps spec before → Follow spec before faults → Keeps spec (before ++ faults)
  keeps_all before [] keeps follow = subst (Keeps spec) (sym (append-nil before)) keeps
  keeps_all before (fault ∷ faults) keeps follow =
      subst (Keeps spec) (append_assoc before (fault ∷ []) faults) (keeps_all (before ++ fault ∷ []) faults (keeps_end before fault keeps follow.0) follow.1)

  keeps_none : Keeps spec []
  keeps_none = record {
    kinds = each_none (λ (f : Fault). IsKind spec f.kind);
    later = each_later_none Later;
    first = each_none (λ (f : Fault). 1 ≤ f.frame);
    last = each_none (λ (f : Fault). f.frame ≤ 0);
    low = omega arith;
    halted = each_none (λ (f : Fault). (restart : RestartAt) → restart_of_fault f ≡ Some restart → HaltsWellBefore [] restart.proc.0 restart.frame);
  }

-- Lemmas on two faults of one class.

in_order : (f g r x y v w : ℕ) → (comes_after f r g r || (f == g && r == r && comes_after x v y w)) ≡ true → (x == y && f == g) ≡ false → Before f x g y
in_order f g r x y v w later differ = elim (or_cases (comes_after f r g r) (f == g && r == r && comes_after x v y w) later) [
  | inl frames ↦ elim (or_cases (nat_lt f g) (f == g && nat_lt r r) frames) [
    | inl less ↦ inl (grind (arith, nat_tests, less))
    | inr same ↦ (let parts = and_parts (f == g) (nat_lt r r) same in absurd (grind (arith, nat_tests, parts.1)))
  ]
  | inr numbers ↦
      let parts = and_parts (f == g && r == r) (comes_after x v y w) numbers in
      let frames = and_parts (f == g) (r == r) parts.0 in
      elim (or_cases (nat_lt x y) (x == y && nat_lt v w) parts.1) [
        | inl less ↦ inr (grind (arith, nat_tests, frames.0), grind (arith, nat_tests, less))
        | inr same ↦ (let alike = and_parts (x == y) (nat_lt v w) same in absurd (true_false (x == y && f == g) (rw (alike.0, frames.0) refl) differ))
      ]
]

not_same : (x y f g : ℕ) → (x == y) ≡ false → (x == y && f == g) ≡ false
not_same x y f g differ = rw differ refl

apart : (x y : ℕ) → (x == y && true) ≡ false → (x == y) ≡ false
apart x y e = by_bool (x == y) (λ same. absurd (true_false (x == y && true) (rw same refl) e)) (λ other. other)

differ_by : (x y : ℕ) → (x == y) ≡ false → x ≡ y → ⊥
differ_by x y other same = grind (arith, nat_tests, other, same)

changes_in_order : (f g : ℕ) (k l : FaultKind) (a b : Change) → change_fault_in f k ≡ Some a → change_fault_in g l ≡ Some b → may_come_after (record { frame = g; kind = l }) (record { frame = f; kind = k }) ≡ true → ChangeBefore a b
changes_in_order f g (kind.Change x v) (kind.Change y w) a b p q later =
    let parts = and_parts (precedes (record { frame = f; kind = kind.Change x v }) (record { frame = g; kind = kind.Change y w })) _ later in
    let differ = not-true (repeats (record { frame = f; kind = kind.Change x v }) (record { frame = g; kind = kind.Change y w })) parts.1 in
    let order : Before f x.0 g y.0 = in_order f g 0 x.0 y.0 v w parts.0 differ in
    subst (λ (c : Change). ChangeBefore c b) (same_Some _ a p) (subst (λ (c : Change). Before f x.0 c.frame c.factor.0) (same_Some _ b q) order)
changes_in_order f g (kind.Change x v) (kind.Halt r s) a b p q later = absurd cc
changes_in_order f g (kind.Change x v) (kind.Restart r) a b p q later = absurd cc
changes_in_order f g (kind.Halt r s) l a b p q later = absurd cc
changes_in_order f g (kind.Restart r) l a b p q later = absurd cc

-- The halt or restart of processor `p` in frame `f` comes before the halt or restart of another processor `q` in
-- frame `g`.
record AreApart (f p g q : ℕ) : Type 0 where
  order : Before f p g q
  other : p ≡ q → ⊥

halts_apart : (f g : ℕ) (k l : FaultKind) (a b : HaltAt) → halt_fault_in f k ≡ Some a → halt_fault_in g l ≡ Some b → may_come_after (record { frame = g; kind = l }) (record { frame = f; kind = k }) ≡ true
    → AreApart a.frame a.proc.0 b.frame b.proc.0
halts_apart f g (kind.Halt x v) (kind.Halt y w) a b p q later =
    let parts = and_parts (precedes (record { frame = f; kind = kind.Halt x v }) (record { frame = g; kind = kind.Halt y w })) _ later in
    let differ = apart x.0 y.0 (not-true (repeats (record { frame = f; kind = kind.Halt x v }) (record { frame = g; kind = kind.Halt y w })) parts.1) in
    let are : AreApart f x.0 g y.0 = record { order = in_order f g 1 x.0 y.0 v w parts.0 (not_same x.0 y.0 f g differ); other = differ_by x.0 y.0 differ } in
    subst (λ (c : HaltAt). AreApart c.frame c.proc.0 b.frame b.proc.0) (same_Some _ a p) (subst (λ (c : HaltAt). AreApart f x.0 c.frame c.proc.0) (same_Some _ b q) are)
halts_apart f g (kind.Halt x v) (kind.Change r s) a b p q later = absurd cc
halts_apart f g (kind.Halt x v) (kind.Restart r) a b p q later = absurd cc
halts_apart f g (kind.Change r s) l a b p q later = absurd cc
halts_apart f g (kind.Restart r) l a b p q later = absurd cc

restarts_apart : (f g : ℕ) (k l : FaultKind) (a b : RestartAt) → restart_fault_in f k ≡ Some a → restart_fault_in g l ≡ Some b → may_come_after (record { frame = g; kind = l }) (record { frame = f; kind = k }) ≡ true
    → AreApart a.frame a.proc.0 b.frame b.proc.0
restarts_apart f g (kind.Restart x) (kind.Restart y) a b p q later =
    let parts = and_parts (precedes (record { frame = f; kind = kind.Restart x }) (record { frame = g; kind = kind.Restart y })) _ later in
    let differ = apart x.0 y.0 (not-true (repeats (record { frame = f; kind = kind.Restart x }) (record { frame = g; kind = kind.Restart y })) parts.1) in
    let are : AreApart f x.0 g y.0 = record { order = in_order f g 2 x.0 y.0 0 0 parts.0 (not_same x.0 y.0 f g differ); other = differ_by x.0 y.0 differ } in
    subst (λ (c : RestartAt). AreApart c.frame c.proc.0 b.frame b.proc.0) (same_Some _ a p) (subst (λ (c : RestartAt). AreApart f x.0 c.frame c.proc.0) (same_Some _ b q) are)
restarts_apart f g (kind.Restart x) (kind.Change r s) a b p q later = absurd cc
restarts_apart f g (kind.Restart x) (kind.Halt r s) a b p q later = absurd cc
restarts_apart f g (kind.Change r s) l a b p q later = absurd cc
restarts_apart f g (kind.Halt r s) l a b p q later = absurd cc

-- A fault of a script with `frames` frames may come in frame `frame`: the frame is at least 1 and below `frames`.
record LiesIn (frames frame : ℕ) : Type 0 where
  first : 1 ≤ frame
  last : frame < frames

module _ (spec : Parts) (frames : ℕ) where
  is_change : (frame : ℕ) (k : FaultKind) (change : Change) → change_fault_in frame k ≡ Some change → IsKind spec k → LiesIn frames frame → IsChange spec frames change
  is_change frame (kind.Change x v) change e is lies =
      subst (IsChange spec frames) (same_Some _ change e) (record { least = lies.first; most = lies.last; factor = is.is; there = is.there; value = is.below })
  is_change frame (kind.Halt p s) change e is lies = absurd cc
  is_change frame (kind.Restart p) change e is lies = absurd cc

  is_halt : (frame : ℕ) (k : FaultKind) (halt : HaltAt) → halt_fault_in frame k ≡ Some halt → IsKind spec k → LiesIn frames frame → IsHalt spec frames halt
  is_halt frame (kind.Halt p s) halt e is lies =
      subst (IsHalt spec frames) (same_Some _ halt e)
      (record { proc = is.there; frame = lies.last; step = elim is.moment [ inl early ↦ omega (arith, early) | inr late ↦ omega (arith, late) ] })
  is_halt frame (kind.Change x v) halt e is lies = absurd cc
  is_halt frame (kind.Restart p) halt e is lies = absurd cc

  is_restart : (halts : List HaltAt) (frame : ℕ) (k : FaultKind) (restart : RestartAt) → restart_fault_in frame k ≡ Some restart → IsKind spec k → LiesIn frames frame
      → HaltsWellBefore halts restart.proc.0 restart.frame → IsRestart spec frames restart
  is_restart halts frame (kind.Restart p) restart e is lies before =
      let late = before.frame in
      subst (λ (r : RestartAt). HaltsWellBefore halts r.proc.0 r.frame → IsRestart spec frames r) (same_Some _ restart e)
      (λ halted. let late = halted.frame in record { proc = is; least = omega (arith, late); most = lies.last }) before
  is_restart halts frame (kind.Change x v) restart e is lies before = absurd cc
  is_restart halts frame (kind.Halt p s) restart e is lies before = absurd cc

module _ (spec : Parts) (is : IsSpec spec) (faults : List Fault) (few : length faults ≤ 3) (keeps : Keeps spec faults) where
  lies : (fault : Fault) → 1 ≤ fault.frame → fault.frame ≤ last_fault_frame faults → LiesIn (frames_of_faults spec faults) fault.frame
  lies fault first last = record { first = first; last = omega (arith, last) }

  given : Each (λ (fault : Fault). IsKind spec fault.kind × LiesIn (frames_of_faults spec faults) fault.frame) faults
  given i fault there = (keeps.kinds i fault there, lies fault (keeps.first i fault there) (keeps.last i fault there))

  given_restart : Each (λ (fault : Fault). IsKind spec fault.kind × LiesIn (frames_of_faults spec faults) fault.frame
      × ((restart : RestartAt) → restart_of_fault fault ≡ Some restart → HaltsWellBefore (filter_map halt_of_fault faults) restart.proc.0 restart.frame)) faults
  given_restart i fault there = (keeps.kinds i fault there, lies fault (keeps.first i fault there) (keeps.last i fault there), keeps.halted i fault there)

  halts_are_apart : EachLater (λ (a b : HaltAt). AreApart a.frame a.proc.0 b.frame b.proc.0) (filter_map halt_of_fault faults)
  halts_are_apart = later_given halt_of_fault Later (λ (a b : HaltAt). AreApart a.frame a.proc.0 b.frame b.proc.0) (λ x y a b p q later. halts_apart x.frame y.frame x.kind y.kind a b p q later) faults keeps.later

  restarts_are_apart : EachLater (λ (a b : RestartAt). AreApart a.frame a.proc.0 b.frame b.proc.0) (filter_map restart_of_fault faults)
  restarts_are_apart = later_given restart_of_fault Later (λ (a b : RestartAt). AreApart a.frame a.proc.0 b.frame b.proc.0) (λ x y a b p q later. restarts_apart x.frame y.frame x.kind y.kind a b p q later) faults keeps.later

  fits : Fits spec (script_of_faults spec faults)
  fits =
      let low = keeps.low in
      let bounds = greatest_within spec.bounds 1000 (λ i bound there. (is.bounds i bound there).most) in
      let changes = few_given change_of_fault faults in
      let halts = few_given halt_of_fault faults in
      let restarts = few_given restart_of_fault faults in
      record {
        frames = omega (arith, low, bounds, few);
        changes_count = omega (arith, changes, few);
        changes = each_given change_of_fault _ (IsChange spec (frames_of_faults spec faults)) (λ fault change e known. is_change spec (frames_of_faults spec faults) fault.frame fault.kind change e known.0 known.1) faults given;
        changes_ordered = next_later ChangeBefore (filter_map change_of_fault faults)
            (later_given change_of_fault Later ChangeBefore (λ x y a b p q later. changes_in_order x.frame y.frame x.kind y.kind a b p q later) faults keeps.later);
        halts_count = omega (arith, halts, few);
        halts = each_given halt_of_fault _ (IsHalt spec (frames_of_faults spec faults)) (λ fault halt e known. is_halt spec (frames_of_faults spec faults) fault.frame fault.kind halt e known.0 known.1) faults given;
        halts_ordered = λ i a b p q. (halts_are_apart i (i + 1) a b (omega arith) p q).order;
        restarts_count = omega (arith, restarts, few);
        restarts = each_given restart_of_fault _ (IsRestart spec (frames_of_faults spec faults))
            (λ fault restart e known. is_restart spec (frames_of_faults spec faults) (filter_map halt_of_fault faults) fault.frame fault.kind restart e known.0 known.1 (known.2 restart e)) faults given_restart;
        restarts_ordered = λ i a b p q. (restarts_are_apart i (i + 1) a b (omega arith) p q).order;
        restarts_once = λ i j a b less p q. (restarts_are_apart i j a b less p q).other;
        restarts_late = each_given restart_of_fault _ (λ (restart : RestartAt). HaltsWellBefore (filter_map halt_of_fault faults) restart.proc.0 restart.frame)
            (λ fault restart e known. known.2 restart e) faults given_restart;
        halts_twice = λ i j k x y z less more p q r same also. (halts_are_apart i j x y less p q).other same;
        halts_again = λ i j a b less p q same. absurd ((halts_are_apart i j a b less p q).other same);
      }

pub members_fit : MembersFit
members_fit spec count faults is few member =
    let many = member.many in
    fits spec is faults (omega (arith, few, many)) (keeps_all spec is [] faults (keeps_none spec is) member.follow)
