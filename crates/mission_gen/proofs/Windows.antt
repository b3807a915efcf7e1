-- A generated script keeps to the failure assumption of its specification: at most one processor is down, and forty
-- consecutive frames contain the changes of one block alone.
use Rattle.std.proofs.Common.{◌≡◌, refl, ap, sym, ◌∙◌, ℕ, zero, suc, ◌+◌, ◌-◌, ◌*◌, ◌/◌, ◌%◌, ◌<◌, ◌≤◌, ◌⊎◌, Bool, true, false, not, arith, List, [], ◌∷◌, ◌++◌, length, inl, inr, replicate, subst}
use Rattle.std.specs.Prelude.{◌&&◌, ◌||◌, ◌==◌, if◌then◌else◌, nat_le, nat_lt}
use Rattle.std.specs.List.{list_any}
use Rattle.std.specs.Str.{bytes_eq}
use Rattle.std.proofs.lemmas.Bool.Decides.{nat_tests}
use Rattle.std.proofs.lemmas.Slice.Eq.{bytes_eq-Decides}
use Rattle.scram_types.specs.declared.rows.Env.{Env}
use Rattle.scram_types.specs.declared.scripts.Change.{Change}
use Rattle.scram_types.specs.declared.scripts.HaltAt.{HaltAt}
use Rattle.scram_types.specs.Scripts.{ScriptParts}
use Rattle.scram_types.specs.Specification.{Parts}
use Rattle.scram_types.specs.Bits.{bits_below}
use Rattle.scram_types.proofs.BitSets.{same_bits}
use Rattle.fault_script.specs.Assumption.{IsWithin, changes_upto, down_below, is_change_frame, is_same_env}
use Rattle.fault_script.specs.Environments.{env_at}
use Rattle.fault_script.specs.Times.{factors_at, is_up, value_after}
use Rattle.fault_script.proofs.Halts.{up_by_lists}
use Rattle.fault_script.proofs.Walking.{six_same}
use Rattle.mission_gen.specs.Blocks.{alternator, delay, first_frame, random, turns_both}
use Rattle.mission_gen.specs.Changes.{changes_by, changes_of, frames_of, generated_script, last_block, value_by, values_by, generated_halt}
use Rattle.mission_gen.specs.Turns.{Turn, turn, turns_in, turns_to}
use Rattle.mission_gen.proofs.Fitting.{HasCounts}

-- The events of a mission: the frames in which its environment may change. Each block has two events. The halt is in
-- the frame of block 5's first event, and the second event of block 5 is the frame after the halt.

abbrev first_event : ℕ → ℕ → ℕ
first_event n k = first_frame k (random n k)

abbrev second_event : ℕ → ℕ → ℕ
second_event n k = first_frame k (random n k) + (if k == 5 then 1 else delay (random n k))

record IsEvent (n f : ℕ) : Type 0 where
  pub block : ℕ
  pub which : (f ≡ first_event n block) ⊎ (f ≡ second_event n block)

abbrev AreEvents : ℕ → List Turn → Type 0
AreEvents n [] = Unit {0}
AreEvents n (t ∷ ts) = IsEvent n t.frame × AreEvents n ts

events_more : (n : ℕ) (xs ys : List Turn) → AreEvents n xs → AreEvents n ys → AreEvents n (xs ++ ys)
events_more n [] ys first second = second
events_more n (x ∷ xs) ys first second = (first.0, events_more n xs ys first.1 second)

first_of : (n k : ℕ) → IsEvent n (first_event n k)
first_of n k = record { block = k; which = inl refl }

second_of : (n k : ℕ) → (k == 5) ≡ false → IsEvent n (first_frame k (random n k) + delay (random n k))
second_of n k other = record {
  block = k;
  which = inr (sym (ap (λ (b : Bool). first_frame k (random n k) + (if b then 1 else delay (random n k))) other));
}

block_events : (n k : ℕ) (fifth third both : Bool) → (k == 5) ≡ fifth →
    AreEvents n
    (if fifth then []
    else (turn (first_event n k) (alternator (random n k))
    ∷ (if third then turn (first_event n k) (2 + (k / 3) % 4) ∷ [] else [])
    ++ (if both then turn (first_event n k + delay (random n k)) (1 - alternator (random n k)) ∷ [] else [])))
block_events n k true third both is = tt
block_events n k false true true is = (first_of n k, (first_of n k, (second_of n k is, tt)))
block_events n k false true false is = (first_of n k, (first_of n k, tt))
block_events n k false false true is = (first_of n k, (second_of n k is, tt))
block_events n k false false false is = (first_of n k, tt)

turns_are_events : (n k : ℕ) → AreEvents n (turns_to n k)
turns_are_events n zero = tt
turns_are_events n (suc k) =
    events_more n (turns_to n k) (turns_in (suc k) (random n (suc k))) (turns_are_events n k)
    (block_events n (suc k) (suc k == 5) (suc k % 3 == 0) (turns_both (random n (suc k))) refl)

-- Lemmas that the factors keep their values in a frame in which no factor turns.

abbrev turns_at : ℕ → List Turn → Bool
turns_at f ts = list_any (λ (t : Turn). t.frame == f) ts

no_left : (a b : Bool) → (a || b) ≡ false → a ≡ false
no_left true b none = none
no_left false b none = refl

no_right : (a b : Bool) → (a || b) ≡ false → b ≡ false
no_right true b none = absurd cc
no_right false b none = none

seen_alike : (frame f : ℕ) → (frame == suc f) ≡ false → nat_le frame f ≡ nat_le frame (suc f)
seen_alike frame f other = grind (arith, nat_tests)

value_kept : (values : List ℕ) (ts : List Turn) (x f v : ℕ) → turns_at (suc f) ts ≡ false →
    value_after (changes_by values ts) x f v ≡ value_after (changes_by values ts) x (suc f) v
value_kept values [] x f v none = refl
value_kept values (t ∷ ts) x f v none =
    let alike = seen_alike t.frame f (no_left (t.frame == suc f) (turns_at (suc f) ts) none) in
    ap (λ (seen : Bool). value_after (changes_by (values_by values t) ts) x f (if t.factor == x && seen then value_by values t else v)) alike
    ∙ value_kept (values_by values t) ts x f (if t.factor == x && nat_le t.frame (suc f) then value_by values t else v)
    (no_right (t.frame == suc f) (turns_at (suc f) ts) none)

-- A script with one halt and without restarts.

abbrev with_halt : ℕ → List Change → HaltAt → ScriptParts
with_halt frames changes h = record { frames = frames; changes = changes; halts = h ∷ []; restarts = [] }

abbrev is_up_of : HaltAt → ℕ → Bool → Bool
is_up_of h p gone = not (h.proc.0 == p && gone && true) && true

up_is : (frames : ℕ) (changes : List Change) (h : HaltAt) (p f : ℕ) → is_up (with_halt frames changes h) p f ≡ is_up_of h p (nat_lt h.frame f)
up_is frames changes h p f = sym (up_by_lists (with_halt frames changes h) p f)

gone_alike : (frame f : ℕ) → (frame == f) ≡ false → nat_lt frame f ≡ nat_lt frame (suc f)
gone_alike frame f other = grind (arith, nat_tests)

up_kept : (frames : ℕ) (changes : List Change) (h : HaltAt) (p f : ℕ) → (h.frame == f) ≡ false →
    is_up (with_halt frames changes h) p f ≡ is_up (with_halt frames changes h) p (suc f)
up_kept frames changes h p f other =
    up_is frames changes h p f ∙ ap (is_up_of h p) (gone_alike h.frame f other) ∙ sym (up_is frames changes h p (suc f))

-- At most one of two processors is down, since there is only one halt.
one_down : (first second gone : Bool) → (first ≡ true → second ≡ true → ⊥) →
    (0 + (if not (not (first && gone && true) && true) then 1 else 0)) + (if not (not (second && gone && true) && true) then 1 else 0) ≤ 1
one_down true true gone apart = absurd (apart refl refl)
one_down true false true apart = omega arith
one_down true false false apart = omega arith
one_down false true true apart = omega arith
one_down false true false apart = omega arith
one_down false false gone apart = omega arith

apart_of : (p : ℕ) → (p == 0) ≡ true → (p == 1) ≡ true → ⊥
apart_of p first second = grind (arith, nat_tests)

few_down : (frames : ℕ) (changes : List Change) (h : HaltAt) (f : ℕ) → down_below (with_halt frames changes h) f 2 ≤ 1
few_down frames changes h f =
    rw (up_is frames changes h 0 f, up_is frames changes h 1 f) (one_down (h.proc.0 == 0) (h.proc.0 == 1) (nat_lt h.frame f) (apart_of h.proc.0))

-- The environment changes only in the frames of events.

same_env : (v w : Env) → v ≡ w → is_same_env v w ≡ true
same_env v w same = rw (← same) (both_same (v.up == v.up) (bytes_eq v.factors v.factors) (itself v.up) ((bytes_eq-Decides v.factors v.factors).1 refl))
  where
    itself : (a : ℕ) → (a == a) ≡ true
    itself a = grind (arith, nat_tests)

    both_same : (a b : Bool) → a ≡ true → b ≡ true → (a && b) ≡ true
    both_same a b p q = rw (p, q) refl

env_kept : (spec : Parts) (frames : ℕ) (ts : List Turn) (h : HaltAt) (f : ℕ) → turns_at (suc f) ts ≡ false → (h.frame == f) ≡ false →
    env_at spec (with_halt frames (changes_by (replicate 6 0) ts) h) f ≡ env_at spec (with_halt frames (changes_by (replicate 6 0) ts) h) (suc f)
env_kept spec frames ts h f none other =
    let changes = changes_by (replicate 6 0) ts in
    let script = with_halt frames changes h in
    let up : bits_below (λ p. is_up script p f) (length spec.procs) ≡ bits_below (λ p. is_up script p (suc f)) (length spec.procs) =
    same_bits (λ p. is_up script p f) (λ p. is_up script p (suc f)) (length spec.procs) (λ p low. up_kept frames changes h p f other) in
    let factors : factors_at script f ≡ factors_at script (suc f) =
    six_same _ _ _ _ _ _ _ _ _ _ _ _
    (value_kept (replicate 6 0) ts 0 f 0 none) (value_kept (replicate 6 0) ts 1 f 0 none) (value_kept (replicate 6 0) ts 2 f 0 none)
    (value_kept (replicate 6 0) ts 3 f 0 none) (value_kept (replicate 6 0) ts 4 f 0 none) (value_kept (replicate 6 0) ts 5 f 0 none) in
    env_same _ _ _ _ up factors
  where
    env_same : (a b : ℕ) (xs ys : List ℕ) → a ≡ b → xs ≡ ys → ◌≡◌ {A = Env} (record { up = a; factors = xs }) (record { up = b; factors = ys })
    env_same a b xs ys p q = rw (p, q) refl

equal : (a b : ℕ) → (a == b) ≡ true → a ≡ b
equal a b same = grind (arith, nat_tests)

turned_here : (n f : ℕ) (t : Turn) (ts : List Turn) (here : Bool) → (t.frame == f) ≡ here → IsEvent n t.frame → (turns_at f ts ≡ true → IsEvent n f) →
    (here || turns_at f ts) ≡ true → IsEvent n f
turned_here n f t ts true is event later found = subst (IsEvent n) (equal t.frame f is) event
turned_here n f t ts false is event later found = later found

turned_at : (n f : ℕ) (ts : List Turn) → AreEvents n ts → turns_at f ts ≡ true → IsEvent n f
turned_at n f [] events found = absurd cc
turned_at n f (t ∷ ts) events found = turned_here n f t ts (t.frame == f) refl events.0 (λ later. turned_at n f ts events.1 later) found

halted_at : (n f : ℕ) → (generated_halt n).frame ≡ f → IsEvent n (suc f)
halted_at n f is = record { block = 5; which = inr (omega (arith, is)) }

changed_is_event : (spec : Parts) (n f : ℕ) → is_change_frame spec (generated_script n) f ≡ true → IsEvent n f
changed_is_event spec n zero changed = absurd cc
changed_is_event spec n (suc f) changed = by_tests (turns_at (suc f) ts) refl ((generated_halt n).frame == f) refl
  where
    ts : List Turn
    ts = turns_to n (last_block (frames_of n))

    by_tests : (turned : Bool) → turns_at (suc f) ts ≡ turned → (halted : Bool) → ((generated_halt n).frame == f) ≡ halted → IsEvent n (suc f)
    by_tests true is halted at = turned_at n (suc f) ts (turns_are_events n (last_block (frames_of n))) is
    by_tests false is true at = halted_at n f (equal (generated_halt n).frame f at)
    by_tests false is false at =
        let same = same_env _ _ (env_kept spec (frames_of n) ts (generated_halt n) f is at) in
        let kept : is_change_frame spec (generated_script n) (suc f) ≡ false = ap not same in
        let both : false ≡ true = sym kept ∙ changed in
        absurd cc

-- If consecutive frames contain two events, at most two of the frames are change frames.

abbrev reached : ℕ → ℕ → ℕ
reached event f = if nat_le event f then 1 else 0

by_reach : (event f : ℕ) (before now : Bool) → nat_le event f ≡ before → nat_le event (suc f) ≡ now →
    ((if before then 1 else 0) ≤ (if now then 1 else 0)) × ((if now then 1 else 0) ≤ 1)
by_reach event f true true p q = (omega arith, omega arith)
by_reach event f true false p q = absurd (lost event f p q)
  where
    lost : (event f : ℕ) → nat_le event f ≡ true → nat_le event (suc f) ≡ false → ⊥
    lost event f p q = grind (arith, nat_tests)
by_reach event f false true p q = (omega arith, omega arith)
by_reach event f false false p q = (omega arith, omega arith)

not_yet : (f : ℕ) → reached (suc f) f ≡ 0
not_yet f = let later : nat_le (suc f) f ≡ false = grind (arith, nat_tests) in rw (later) refl

just_now : (f : ℕ) → reached (suc f) (suc f) ≡ 1
just_now f = let now : nat_le (suc f) (suc f) ≡ true = grind (arith, nat_tests) in rw (now) refl

two_changes : (spec : Parts) (script : ScriptParts) (first second g m : ℕ) →
    ((s : ℕ) → g < s → s ≤ g + m → is_change_frame spec script s ≡ true → (s ≡ first) ⊎ (s ≡ second)) →
    changes_upto spec script (g + m) ≤ changes_upto spec script g + reached first (g + m) + reached second (g + m)
two_changes spec script first second g zero only =
    let same : g + 0 ≡ g = omega arith in rw (same) (omega arith)
two_changes spec script first second g (suc m) only =
    let further : g + suc m ≡ suc (g + m) = omega arith in
    let before = two_changes spec script first second g m (λ s low high changed. only s low (omega (arith, high)) changed) in
    let first_grows = by_reach first (g + m) _ _ refl refl in
    let second_grows = by_reach second (g + m) _ _ refl refl in
    rw (further) (by_test (is_change_frame spec script (suc (g + m))) refl before first_grows.0 second_grows.0)
  where
    counted : (b : Bool) → ℕ
    counted b = if b then 1 else 0

    now : is_change_frame spec script (suc (g + m)) ≡ true → (suc (g + m) ≡ first) ⊎ (suc (g + m) ≡ second)
    now changed = only (suc (g + m)) (omega arith) (omega arith) changed

    by_test : (b : Bool) → is_change_frame spec script (suc (g + m)) ≡ b →
        changes_upto spec script (g + m) ≤ changes_upto spec script g + reached first (g + m) + reached second (g + m) →
        reached first (g + m) ≤ reached first (suc (g + m)) → reached second (g + m) ≤ reached second (suc (g + m)) →
        changes_upto spec script (g + m) + (if b then 1 else 0) ≤ changes_upto spec script g + reached first (suc (g + m)) + reached second (suc (g + m))
    by_test false is before p q = omega (arith, before, p, q)
    by_test true is before p q = elim (now is) [
      | inl at ↦ (
          let was : reached first (g + m) ≡ 0 = subst (λ (e : ℕ). reached e (g + m) ≡ 0) at (not_yet (g + m)) in
          let came : reached first (suc (g + m)) ≡ 1 = subst (λ (e : ℕ). reached e (suc (g + m)) ≡ 1) at (just_now (g + m)) in
          omega (arith, before, was, came, q))
      | inr at ↦ (
          let was : reached second (g + m) ≡ 0 = subst (λ (e : ℕ). reached e (g + m) ≡ 0) at (not_yet (g + m)) in
          let came : reached second (suc (g + m)) ≡ 1 = subst (λ (e : ℕ). reached e (suc (g + m)) ≡ 1) at (just_now (g + m)) in
          omega (arith, before, was, came, p))
    ]

-- Forty consecutive frames contain the events of only one block.

delay_few : (x : ℕ) (fifth : Bool) → (if fifth then 1 else delay x) ≤ 8
delay_few x true = omega arith
delay_few x false = omega arith

in_block : (n f k : ℕ) → (f ≡ first_event n k) ⊎ (f ≡ second_event n k) → (60 * k ≤ f) × (f < 60 * k + 16)
in_block n f k (inl is) = (omega (arith, is), omega (arith, is))
in_block n f k (inr is) = let few = delay_few (random n k) (k == 5) in (omega (arith, is), omega (arith, is, few))

of_block : (n f s : ℕ) → f - 40 < s → s ≤ f → IsEvent n s → (s ≡ first_event n (f / 60)) ⊎ (s ≡ second_event n (f / 60))
of_block n f s low high event =
    let inside = in_block n s event.block event.which in
    let same : event.block ≡ f / 60 = omega (arith, low, high, inside.0, inside.1) in
    subst (λ (k : ℕ). (s ≡ first_event n k) ⊎ (s ≡ second_event n k)) same event.which

few_changes : (spec : Parts) (n f : ℕ) → changes_upto spec (generated_script n) f ≤ changes_upto spec (generated_script n) (f - 40) + 2
few_changes spec n f =
    let whole : (f - 40) + (f - (f - 40)) ≡ f = omega arith in
    let most = two_changes spec (generated_script n) (first_event n (f / 60)) (second_event n (f / 60)) (f - 40) (f - (f - 40))
    (λ s low high changed. of_block n f s low (omega (arith, high, whole)) (changed_is_event spec n s changed)) in
    let first = (by_reach (first_event n (f / 60)) f _ _ refl refl) in
    let known = subst (λ (e : ℕ). changes_upto spec (generated_script n) e
    ≤ changes_upto spec (generated_script n) (f - 40) + reached (first_event n (f / 60)) e + reached (second_event n (f / 60)) e) whole most in
    let a = at_most (nat_le (first_event n (f / 60)) f) in
    let b = at_most (nat_le (second_event n (f / 60)) f) in
    omega (arith, known, a, b)
  where
    at_most : (b : Bool) → (if b then 1 else 0) ≤ 1
    at_most true = omega arith
    at_most false = omega arith

pub script_is_within : (spec : Parts) (n : ℕ) → HasCounts spec → IsWithin spec (generated_script n)
script_is_within spec n counts = record {
  scope = λ f inside.
      subst (λ (p : ℕ). down_below (generated_script n) f p ≤ spec.halts) (sym counts.procs)
      (let few = few_down (frames_of n) (changes_of n (frames_of n)) (generated_halt n) f in omega (arith, few, counts.halts));
  few = λ f inside.
      subst (λ (w : ℕ). changes_upto spec (generated_script n) f ≤ changes_upto spec (generated_script n) (f - w) + spec.changes + 1) (sym counts.window)
      (let most = few_changes spec n f in omega (arith, most, counts.changes));
}
