-- Lemmas on the factors' values after the changes up to a frame, on walks, and on windows.
use Rattle.std.proofs.Common.{◌≡◌, ℕ, zero, suc, ◌+◌, ◌-◌, ◌<◌, ◌≤◌, Bool, true, false, not, refl, arith, ap, sym, subst, ◌∙◌, List, [], ◌∷◌, length, get_or}
use mathlib.Core.Logic.{inl, inr}
use Rattle.scram_types.proofs.Naturals.{at_or_below, above_test, below_or_at, at_most_test}
use mir.Val.{bool_byte}
use Rattle.std.specs.Prelude.{◌==◌, Option, Some, None, if◌then◌else◌, slice_get}
use Rattle.std.proofs.lemmas.Option.{slice_get-get_or, slice_get_within}
use Rattle.std.proofs.Math.Bool.{and-false, and-true}
use Rattle.scram_types.proofs.Naturals.{plus_one}
use Rattle.scram_types.specs.declared.scripts.Change.{Change}
use Rattle.scram_types.specs.declared.rows.Env.{Env}
use Rattle.scram_types.specs.Scripts.{ScriptParts}
use Rattle.scram_types.specs.Specification.{Parts}
use Rattle.scram_types.specs.Bits.{bits_below}
use Rattle.scram_types.proofs.Options.{same_some, none_some}
use Rattle.scram_types.proofs.Equality.{same_env}
use Rattle.fault_script.specs.Times.{factors_at, is_up, value_after}
use Rattle.fault_script.specs.Environments.{env_at}
use Rattle.fault_script.specs.Assumption.{changes_upto, is_change_frame, is_same_env}
use Rattle.fault_script.specs.declared.walks.Walk.{Walk}
use Rattle.fault_script.specs.declared.walks.Window.{Window}
use Rattle.fault_script.specs.Fits.{ChangeBefore, EachNext, Fits}
use Rattle.fault_script.specs.Walks.{HaveCome, IsWalk, IsWhole, IsWindow, changed_values, newest, value_taken, values_taken}
use Rattle.fault_script.proofs.Assuming.{upto_grows, upto_most}

pub taken_more : (changes : List Change) (f n : ℕ) (change : Change) → HaveCome changes f n → slice_get changes n ≡ Some change → change.frame ≤ f → HaveCome changes f (n + 1)
taken_more changes f n change taken there by = λ k other less found. elim (below_or_at k n (omega arith)) [
  | inl earlier ↦ taken k other earlier found
  | inr same ↦ (let is : change ≡ other = same_some change other (sym there ∙ ap (slice_get changes) (sym same) ∙ found) in subst (λ (c : Change). c.frame ≤ f) is by)
]

taken_none : (rest : List Change) (x value : ℕ) → value_taken rest x zero value ≡ value
taken_none [] x value = refl
taken_none (c ∷ rest) x value = refl

pub value_more : (changes : List Change) (x n value : ℕ) (change : Change) → slice_get changes n ≡ Some change
    → value_taken changes x (suc n) value ≡ newest change x (value_taken changes x n value)
value_more [] x n value change there = none_some change there
value_more (first ∷ changes) x zero value change there =
    let is : first ≡ change = same_some first change there in
    taken_none changes x (newest first x value) ∙ ap (λ (c : Change). newest c x value) is
value_more (first ∷ changes) x (suc n) value change there = value_more changes x n (newest first x value) change there

-- Two lists of six numbers that agree at each index are equal.
pub six_same : (a b c d e f g h i j k l : ℕ) → a ≡ g → b ≡ h → c ≡ i → d ≡ j → e ≡ k → f ≡ l
    → ◌≡◌ {A = List ℕ} (a ∷ b ∷ c ∷ d ∷ e ∷ f ∷ []) (g ∷ h ∷ i ∷ j ∷ k ∷ l ∷ [])
six_same a b c d e f g h i j k l p q r s t u = rw (p, q, r, s, t, u) refl

pub values_more : (changes : List Change) (n : ℕ) (change : Change) → slice_get changes n ≡ Some change
    → values_taken changes (n + 1) ≡ changed_values change (values_taken changes n)
values_more changes n change there = ap (values_taken changes) (sym (plus_one n)) ∙ six_same _ _ _ _ _ _ _ _ _ _ _ _
    (value_more changes 0 n 0 change there) (value_more changes 1 n 0 change there) (value_more changes 2 n 0 change there)
    (value_more changes 3 n 0 change there) (value_more changes 4 n 0 change there) (value_more changes 5 n 0 change there)

-- Each change from index `n` on is in a frame after `f`.
IsLater : List Change → ℕ → ℕ → Type 0
IsLater changes f n = (k : ℕ) (change : Change) → n ≤ k → slice_get changes k ≡ Some change → f < change.frame

unseen : (changes : List Change) (x f value : ℕ) → IsLater changes f 0 → value_after changes x f value ≡ value
unfolding IsLater
unseen [] x f value later = refl
unseen (change ∷ changes) x f value later =
    let late = above_test change.frame f (later 0 change (omega arith) refl) in
    rw (late, and-false (change.factor.0 == x)) (unseen changes x f value (λ k other h there. later (suc k) other (omega arith) there))

value_is : (changes : List Change) (x f n value : ℕ) → HaveCome changes f n → IsLater changes f n → value_after changes x f value ≡ value_taken changes x n value
unfolding IsLater
value_is [] x f n value taken later = refl
value_is (change ∷ changes) x f zero value taken later = unseen (change ∷ changes) x f value later
value_is (change ∷ changes) x f (suc n) value taken later =
    let by = at_most_test change.frame f (taken 0 change (omega arith) refl) in
    rw (by, and-true (change.factor.0 == x)) (value_is changes x f n (newest change x value)
    (λ k other h there. taken (suc k) other (omega arith) there) (λ k other h there. later (suc k) other (omega arith) there))

ordered : (a b : Change) → ChangeBefore a b → a.frame ≤ b.frame
ordered a b (inl less) = omega arith
ordered a b (inr same) = let equal = same.0 in omega arith

missing : {P : Type 0} (cs : List Change) (i : ℕ) → i < length cs → slice_get cs i ≡ None → P
missing [] i h e = absurd (omega arith)
missing (c ∷ cs) zero h e = absurd (cc)
missing (c ∷ cs) (suc i) h e = missing cs i (omega arith) e

same_item : (changes : List Change) (n k : ℕ) (x y : Change) → n ≡ k → slice_get changes n ≡ Some x → slice_get changes k ≡ Some y → x.frame ≤ y.frame
same_item changes n k x y e at_n at_k =
    let is : x ≡ y = same_some x y (sym at_n ∙ ap (slice_get changes) e ∙ at_k) in subst (λ (c : Change). x.frame ≤ c.frame) is (omega arith)

ascend_step : (changes : List Change) → EachNext ChangeBefore changes → (k : ℕ) (x y : Change) → slice_get changes (suc k) ≡ Some y → ((z : Change) → slice_get changes k ≡ Some z → x.frame ≤ z.frame)
    → (o : Option Change) → slice_get changes k ≡ o → x.frame ≤ y.frame
ascend_step changes later k x y at_k before None e =
    let wide : suc k < length changes = slice_get_within changes (suc k) y at_k in
    missing changes k (omega arith) e
ascend_step changes later k x y at_k before (Some z) e =
    let less = before z e in
    let after = ordered z y (later k z y e (ap (slice_get changes) (sym (plus_one k)) ∙ at_k)) in
    omega arith

-- The changes of a list are in the order of frames.
ascending : (changes : List Change) → EachNext ChangeBefore changes → (k n : ℕ) (x y : Change) → n ≤ k → slice_get changes n ≡ Some x → slice_get changes k ≡ Some y → x.frame ≤ y.frame
ascending changes later zero n x y h at_n at_k = same_item changes n zero x y (omega arith) at_n at_k
ascending changes later (suc k) n x y h at_n at_k = elim (at_or_below n k h) [
  | inl less ↦ ascend_step changes later k x y at_k (λ z e. ascending changes later k n x z less at_n e) (slice_get changes k) refl
  | inr same ↦ same_item changes n (suc k) x y same at_n at_k
]

later_from : (changes : List Change) (f n : ℕ) → EachNext ChangeBefore changes → IsWhole changes f n → (k : ℕ) (y : Change) → n ≤ k → slice_get changes k ≡ Some y
    → (o : Option Change) → slice_get changes n ≡ o → f < y.frame
later_from changes f n later whole k y h there None e =
    let wide : k < length changes = slice_get_within changes k y there in
    missing changes n (omega arith) e
later_from changes f n later whole k y h there (Some x) e =
    let least = whole x e in
    let more = ascending changes later k n x y h e there in
    omega arith

all_later : (changes : List Change) (f n : ℕ) → EachNext ChangeBefore changes → IsWhole changes f n → IsLater changes f n
unfolding IsLater
all_later changes f n later whole = λ k y h there. later_from changes f n later whole k y h there (slice_get changes n) refl

pub values_are : (script : ScriptParts) (f n : ℕ) → EachNext ChangeBefore script.changes → HaveCome script.changes f n → IsWhole script.changes f n
    → values_taken script.changes n ≡ factors_at script f
values_are script f n next taken whole =
    let later = all_later script.changes f n next whole in
    six_same _ _ _ _ _ _ _ _ _ _ _ _
    (sym (value_is script.changes 0 f n 0 taken later)) (sym (value_is script.changes 1 f n 0 taken later)) (sym (value_is script.changes 2 f n 0 taken later))
    (sym (value_is script.changes 3 f n 0 taken later)) (sym (value_is script.changes 4 f n 0 taken later)) (sym (value_is script.changes 5 f n 0 taken later))

-- Lemmas on frame 0, at which no change has been taken.
pub none_taken : (changes : List Change) (f : ℕ) → HaveCome changes f 0
none_taken changes f = λ k change less there. absurd (omega arith)

pub nothing_taken : (changes : List Change) → values_taken changes 0 ≡ 0 ∷ 0 ∷ 0 ∷ 0 ∷ 0 ∷ 0 ∷ []
nothing_taken [] = refl
nothing_taken (change ∷ changes) = refl

pub first_later : (spec : Parts) (script : ScriptParts) → Fits spec script → IsWhole script.changes 0 0
first_later spec script fits = λ change there. (let least = (fits.changes 0 change there).least in omega arith)

-- Lemmas on walks along the frames.

env_whole : (spec : Parts) (script : ScriptParts) (f : ℕ) (env : Env) → env.up ≡ bits_below (λ p. is_up script p f) (length spec.procs) → env.factors ≡ factors_at script f
    → env ≡ env_at spec script f
env_whole spec script f env up factors = same_env env.up _ env.factors _ up factors

pub walk_opens : (spec : Parts) (script : ScriptParts) → Fits spec script → (walk : Walk) → walk.frame ≡ 0 → walk.taken ≡ 0
    → walk.env.up ≡ bits_below (λ p. is_up script p 0) (length spec.procs) → walk.env.factors ≡ 0 ∷ 0 ∷ 0 ∷ 0 ∷ 0 ∷ 0 ∷ []
    → IsWalk spec script 0 walk
walk_opens spec script fits walk at none up factors =
    let values : walk.env.factors ≡ values_taken script.changes walk.taken = factors ∙ sym (nothing_taken script.changes) ∙ ap (values_taken script.changes) (sym none) in
    record {
      frame = at;
      taken = λ k change less there. absurd (omega arith);
      values = values;
      env = env_whole spec script 0 walk.env up
          (factors ∙ sym (nothing_taken script.changes) ∙ values_are script 0 0 fits.changes_ordered (none_taken script.changes 0) (first_later spec script fits));
    }

pub walk_moves : (spec : Parts) (script : ScriptParts) → Fits spec script → (f : ℕ) (after : Walk) → after.frame ≡ f + 1
    → HaveCome script.changes (f + 1) after.taken → after.env.factors ≡ values_taken script.changes after.taken → IsWhole script.changes (f + 1) after.taken
    → after.env.up ≡ bits_below (λ p. is_up script p (f + 1)) (length spec.procs)
    → IsWalk spec script (f + 1) after
walk_moves spec script fits f after at taken values whole up = record {
  frame = at;
  taken = taken;
  values = values;
  env = env_whole spec script (f + 1) after.env up (values ∙ values_are script (f + 1) after.taken fits.changes_ordered taken whole);
}

pub stands_next : (spec : Parts) (script : ScriptParts) (f : ℕ) (walk after : Walk) → IsWalk spec script f walk → IsWalk spec script (walk.frame + 1) after → IsWalk spec script (f + 1) after
stands_next spec script f walk after is there = subst (λ g. IsWalk spec script (g + 1) after) is.frame there

-- Lemmas on windows that count change frames.

pub changes_more : (spec : Parts) (script : ScriptParts) (f : ℕ) (walk after : Walk) (changed : Bool) → IsWalk spec script f walk → IsWalk spec script (f + 1) after
    → changed ≡ not (is_same_env walk.env after.env) → changed ≡ is_change_frame spec script (f + 1)
changes_more spec script f walk after changed here there is =
    is ∙ ap (λ (v : Env). not (is_same_env v after.env)) here.env
    ∙ ap (λ (v : Env). not (is_same_env (env_at spec script f) v)) (there.env ∙ ap (env_at spec script) (sym (plus_one f)))
    ∙ ap (is_change_frame spec script) (plus_one f)

upto_more : (spec : Parts) (script : ScriptParts) (f : ℕ) (changed : Bool) → changed ≡ is_change_frame spec script (f + 1)
    → changes_upto spec script (f + 1) ≡ changes_upto spec script f + (if changed then 1 else 0)
upto_more spec script f changed is =
    ap (changes_upto spec script) (sym (plus_one f))
    ∙ ap (λ (b : Bool). changes_upto spec script f + (if b then 1 else 0)) (ap (is_change_frame spec script) (plus_one f) ∙ sym is)

pub changes_most : (spec : Parts) (script : ScriptParts) (f : ℕ) (window : Window) → IsWindow spec script f window → window.changes ≤ f
changes_most spec script f window is =
    let most = upto_most spec script f in
    let counted = is.changes in
    omega arith

pub window_grows : (spec : Parts) (script : ScriptParts) (f : ℕ) (window after : Window) → f < spec.window → IsWindow spec script f window → IsWalk spec script (f + 1) after.lead
    → after.trail ≡ window.trail → after.changed ≡ not (is_same_env window.lead.env after.lead.env) → after.changes ≡ window.changes + (if after.changed then 1 else 0)
    → IsWindow spec script (f + 1) after
window_grows spec script f window after early is lead trail changed changes =
    let a : f - spec.window ≡ 0 = omega arith in
    let b : f + 1 - spec.window ≡ 0 = omega arith in
    let here = changes_more spec script f window.lead after.lead after.changed is.lead lead changed in
    let more = upto_more spec script f after.changed here in
    let counted = is.changes in
    record {
      lead = lead;
      trail = subst (λ (g : ℕ). IsWalk spec script g after.trail) (a ∙ sym b) (subst (IsWalk spec script (f - spec.window)) (sym trail) is.trail);
      changed = here;
      changes = (let before = rw (a) at counted in rw (b) (omega arith));
    }

upto_ordered : (spec : Parts) (script : ScriptParts) (f g : ℕ) → f ≤ g → changes_upto spec script f ≤ changes_upto spec script g
upto_ordered spec script f zero h = let none : f ≡ 0 = omega arith in rw (none) (omega arith)
upto_ordered spec script f (suc g) h = elim (at_or_below f g h) [
  | inl less ↦ (let before = upto_ordered spec script f g less in let one = upto_grows spec script g in omega arith)
  | inr same ↦ rw (same) (omega arith)
]

-- A change frame that leaves a window was counted in it.
pub left_counted : (spec : Parts) (script : ScriptParts) (f : ℕ) (window : Window) (lead trail : Walk) (changed left : Bool) → spec.window ≤ f → IsWindow spec script f window
    → IsWalk spec script (f + 1) lead → IsWalk spec script (f - spec.window + 1) trail
    → changed ≡ not (is_same_env window.lead.env lead.env) → left ≡ not (is_same_env window.trail.env trail.env)
    → (if left then 1 else 0) ≤ window.changes + (if changed then 1 else 0)
left_counted spec script f window lead trail changed left late is leads trails c l =
    let here = upto_more spec script f changed (changes_more spec script f window.lead lead changed is.lead leads c) in
    let gone = upto_more spec script (f - spec.window) left (changes_more spec script (f - spec.window) window.trail trail left is.trail trails l) in
    let counted = is.changes in
    let most = upto_ordered spec script (f - spec.window + 1) (f + 1) (omega arith) in
    omega arith

pub window_moves : (spec : Parts) (script : ScriptParts) (f : ℕ) (window after : Window) (left : Bool) → spec.window ≤ f → IsWindow spec script f window
    → IsWalk spec script (f + 1) after.lead → IsWalk spec script (f - spec.window + 1) after.trail
    → after.changed ≡ not (is_same_env window.lead.env after.lead.env) → left ≡ not (is_same_env window.trail.env after.trail.env)
    → after.changes ≡ window.changes + (if after.changed then 1 else 0) - (if left then 1 else 0)
    → IsWindow spec script (f + 1) after
window_moves spec script f window after left late is leads trails c l changes =
    let changed = changes_more spec script f window.lead after.lead after.changed is.lead leads c in
    let here = upto_more spec script f after.changed changed in
    let gone = upto_more spec script (f - spec.window) left (changes_more spec script (f - spec.window) window.trail after.trail left is.trail trails l) in
    let room = left_counted spec script f window after.lead after.trail after.changed left late is leads trails c l in
    let apart : f - spec.window + 1 ≡ f + 1 - spec.window = omega arith in
    let counted = is.changes in
    record {
      lead = leads;
      trail = subst (λ (g : ℕ). IsWalk spec script g after.trail) apart trails;
      changed = changed;
      changes = rw (← apart) (omega arith);
    }

-- The change that is read past the end of a list of changes.
abbrev pub blank : Change
blank = record { frame = 0; factor = record { 0 = 0 }; value = 0 }

pub item_at : (changes : List Change) (n : ℕ) → n < length changes → slice_get changes n ≡ Some (get_or changes n blank)
item_at changes n h = slice_get-get_or changes n blank h

pub byte_is : (b : Bool) → bool_byte b ≡ (if b then 1 else 0)
byte_is true = refl
byte_is false = refl

pub at_most_one : (b : Bool) (n : ℕ) → n ≡ (if b then 1 else 0) → n ≤ 1
at_most_one true n e = omega arith
at_most_one false n e = omega arith
