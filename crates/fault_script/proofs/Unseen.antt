-- The environment and the commits of a frame do not depend on the script's entries for later frames.
use Rattle.std.proofs.Math.Bool.{and-false}
use Rattle.std.proofs.Common.{◌≡◌, ℕ, Bool, true, false, refl, arith, ap, sym, ◌∙◌, List, [], ◌∷◌, length}
use Rattle.std.specs.Prelude.{◌&&◌, ◌||◌, ◌==◌, filter, if◌then◌else◌, nat_le, nat_lt}
use Rattle.std.specs.List.{list_all, list_any}
use Rattle.std.proofs.lemmas.Bool.Decides.{nat_tests}
use Rattle.scram_types.proofs.Equality.{same_env}
use Rattle.scram_types.specs.declared.scripts.Change.{Change}
use Rattle.scram_types.specs.declared.scripts.HaltAt.{HaltAt}
use Rattle.scram_types.specs.declared.scripts.RestartAt.{RestartAt}
use Rattle.scram_types.specs.Scripts.{ScriptParts}
use Rattle.scram_types.specs.Specification.{Parts}
use Rattle.scram_types.proofs.BitSets.{same_bits}
use Rattle.fault_script.specs.Times.{commits, factor_at, factors_at, halts_before_mark, is_halt_in, is_over, is_restart_between, is_up, restarted, value_after, words}
use Rattle.fault_script.specs.Laws.{AgreeUpTo, LaterIsUnseen}
use Rattle.fault_script.proofs.Halts.{up_by_lists}

later_not : (frame f : ℕ) → nat_le frame f ≡ false → nat_lt frame f ≡ false
later_not frame f h = grind (arith, nat_tests)

later_other : (frame f : ℕ) → nat_le frame f ≡ false → (frame == f) ≡ false
later_other frame f h = grind (arith, nat_tests)

-- If only kept items can pass a test, some item passes the test if and only if some kept item does. If only kept
-- items can fail a test, all items pass the test if and only if all kept items do.

any_kept_in : {A : Type 0} (test keep : A → Bool) (x : A) (xs : List A) (kept : Bool) → keep x ≡ kept → (keep x ≡ false → test x ≡ false)
    → list_any test (filter keep xs) ≡ list_any test xs → list_any test (if kept then x ∷ filter keep xs else filter keep xs) ≡ (test x || list_any test xs)
any_kept_in test keep x xs true is none same = rw (same) refl
any_kept_in test keep x xs false is none same = rw (none is) same

any_kept : {A : Type 0} (test keep : A → Bool) (xs : List A) → ((x : A) → keep x ≡ false → test x ≡ false) → list_any test (filter keep xs) ≡ list_any test xs
any_kept test keep [] none = refl
any_kept test keep (x ∷ xs) none = any_kept_in test keep x xs (keep x) refl (none x) (any_kept test keep xs none)

all_kept_in : {A : Type 0} (test keep : A → Bool) (x : A) (xs : List A) (kept : Bool) → keep x ≡ kept → (keep x ≡ false → test x ≡ true)
    → list_all test (filter keep xs) ≡ list_all test xs → list_all test (if kept then x ∷ filter keep xs else filter keep xs) ≡ (test x && list_all test xs)
all_kept_in test keep x xs true is pass same = rw (same) refl
all_kept_in test keep x xs false is pass same = rw (pass is) same

all_kept : {A : Type 0} (test keep : A → Bool) (xs : List A) → ((x : A) → keep x ≡ false → test x ≡ true) → list_all test (filter keep xs) ≡ list_all test xs
all_kept test keep [] pass = refl
all_kept test keep (x ∷ xs) pass = all_kept_in test keep x xs (keep x) refl (pass x) (all_kept test keep xs pass)

all_same : {A : Type 0} (f g : A → Bool) (xs : List A) → ((x : A) → f x ≡ g x) → list_all f xs ≡ list_all g xs
all_same f g [] same = refl
all_same f g (x ∷ xs) same = rw (same x, all_same f g xs same) refl

kept_change : (change : Change) (changes : List Change) (x f value : ℕ) (kept : Bool) → nat_le change.frame f ≡ kept
    → ((v : ℕ) → value_after (filter (λ (c : Change). nat_le c.frame f) changes) x f v ≡ value_after changes x f v)
    → value_after (if kept then change ∷ filter (λ (c : Change). nat_le c.frame f) changes else filter (λ (c : Change). nat_le c.frame f) changes) x f value
    ≡ value_after changes x f (if change.factor.0 == x && nat_le change.frame f then change.value else value)
kept_change change changes x f value true is same = same (if change.factor.0 == x && nat_le change.frame f then change.value else value)
kept_change change changes x f value false is same = rw (is, and-false (change.factor.0 == x)) (same value)

kept_value : (changes : List Change) (x f value : ℕ) → value_after (filter (λ (c : Change). nat_le c.frame f) changes) x f value ≡ value_after changes x f value
kept_value [] x f value = refl
kept_value (change ∷ changes) x f value = kept_change change changes x f value (nat_le change.frame f) refl (kept_value changes x f)

module _ (one other : ScriptParts) (f : ℕ) (agree : AgreeUpTo f one other) where
  same_factor : (x : ℕ) → factor_at one x f ≡ factor_at other x f
  same_factor x = sym (kept_value one.changes x f 0) ∙ ap (λ cs. value_after cs x f 0) agree.changes ∙ kept_value other.changes x f 0

  same_restarted : (p h : ℕ) → restarted one p h f ≡ restarted other p h f
  same_restarted p h =
      sym (any_kept (is_restart_between p h f) (λ (r : RestartAt). nat_le r.frame f) one.restarts (λ r late. rw (late) (and-false _)))
      ∙ ap (list_any (is_restart_between p h f)) agree.restarts
      ∙ any_kept (is_restart_between p h f) (λ (r : RestartAt). nat_le r.frame f) other.restarts (λ r late. rw (late) (and-false _))

  over_late : (script : ScriptParts) (p : ℕ) (halt : HaltAt) → nat_le halt.frame f ≡ false → is_over script p f halt ≡ true
  over_late script p halt late = rw (later_not halt.frame f late, and-false (halt.proc.0 == p)) refl

  same_up : (p : ℕ) → is_up one p f ≡ is_up other p f
  same_up p =
      sym (up_by_lists one p f)
      ∙ all_same (is_over one p f) (is_over other p f) one.halts (λ halt. rw (same_restarted p halt.frame) refl)
      ∙ sym (all_kept (is_over other p f) (λ (h : HaltAt). nat_le h.frame f) one.halts (over_late other p))
      ∙ ap (list_all (is_over other p f)) agree.halts
      ∙ all_kept (is_over other p f) (λ (h : HaltAt). nat_le h.frame f) other.halts (over_late other p)
      ∙ up_by_lists other p f

  early_late : (spec : Parts) (p : ℕ) (halt : HaltAt) → nat_le halt.frame f ≡ false → (is_halt_in p f halt && nat_le halt.step (words spec)) ≡ false
  early_late spec p halt late = rw (later_other halt.frame f late, and-false (halt.proc.0 == p)) refl

  same_early : (spec : Parts) (p : ℕ) → halts_before_mark spec one p f ≡ halts_before_mark spec other p f
  same_early spec p =
      sym (any_kept (λ (halt : HaltAt). is_halt_in p f halt && nat_le halt.step (words spec)) (λ (h : HaltAt). nat_le h.frame f) one.halts (early_late spec p))
      ∙ ap (list_any (λ (halt : HaltAt). is_halt_in p f halt && nat_le halt.step (words spec))) agree.halts
      ∙ any_kept (λ (halt : HaltAt). is_halt_in p f halt && nat_le halt.step (words spec)) (λ (h : HaltAt). nat_le h.frame f) other.halts (early_late spec p)

  same_commits : (spec : Parts) (p : ℕ) → commits spec one p f ≡ commits spec other p f
  same_commits spec p = rw (same_up p, same_early spec p) refl

  same_factors : factors_at one f ≡ factors_at other f
  same_factors = rw (same_factor 0, same_factor 1, same_factor 2, same_factor 3, same_factor 4, same_factor 5) refl

pub later_is_unseen : LaterIsUnseen
later_is_unseen spec one other f agree = (
  same_env _ _ _ _ (same_bits (λ p. is_up one p f) (λ p. is_up other p f) (length spec.procs) (λ p low. same_up one other f agree p)) (same_factors one other f agree),
  same_commits one other f agree spec,
)
