-- Lemmas on the count of change frames up to a frame.
use Rattle.std.proofs.Common.{◌≡◌, ℕ, zero, suc, ◌+◌, ◌<◌, ◌≤◌, Bool, true, false, refl, arith}
use mathlib.Core.Logic.{inl, inr}
use Rattle.std.specs.Prelude.{if◌then◌else◌}
use Rattle.scram_types.specs.declared.rows.Env.{Env}
use Rattle.scram_types.proofs.Naturals.{at_or_below}
use Rattle.trace_props.proofs.Plans.{Plan}
use Rattle.trace_props.proofs.Courses.{course_changes_at, course_changes_upto}

-- A change frame adds one to the count of change frames.
pub count_changed : (plan : Plan) (env : ℕ → Env) (f : ℕ) → course_changes_at plan env (suc f) ≡ true → course_changes_upto plan env (suc f) ≡ suc (course_changes_upto plan env f)
count_changed plan env f h = rw h (omega arith)

pub count_same : (plan : Plan) (env : ℕ → Env) (f : ℕ) → course_changes_at plan env (suc f) ≡ false → course_changes_upto plan env (suc f) ≡ course_changes_upto plan env f
count_same plan env f h = rw h (omega arith)

at_most_one : (b : Bool) (n : ℕ) → n ≤ n + (if b then 1 else 0)
at_most_one true n = omega arith
at_most_one false n = omega arith

pub count_grows : (plan : Plan) (env : ℕ → Env) (f : ℕ) → course_changes_upto plan env f ≤ course_changes_upto plan env (suc f)
count_grows plan env f = at_most_one (plan.differ (env f) (env (suc f))) (course_changes_upto plan env f)

count_step : (plan : Plan) (env : ℕ → Env) (a b : ℕ) → a ≤ suc b → (a ≤ b → course_changes_upto plan env a ≤ course_changes_upto plan env b) → course_changes_upto plan env a ≤ course_changes_upto plan env (suc b)
count_step plan env a b h before = elim (at_or_below a b h) [ inl e ↦ let grown = count_grows plan env b in let below = before e in omega arith | inr e ↦ rw e (omega arith) ]

-- The count of change frames does not fall from a frame to a later one.
pub count_le : (plan : Plan) (env : ℕ → Env) (a b : ℕ) → a ≤ b → course_changes_upto plan env a ≤ course_changes_upto plan env b
count_le plan env a zero h = let e : a ≡ 0 = omega arith in rw e (omega arith)
count_le plan env a (suc b) h = count_step plan env a b h (count_le plan env a b)

-- There is a change frame after frame `a` and up to frame `b`.
pub record ChangeBetween (plan : Plan) (env : ℕ → Env) (a b : ℕ) : Type 0 where
  pub change : ℕ
  pub after : a < change
  pub up_to : change ≤ b
  pub changed : course_changes_at plan env change ≡ true

later_change : {plan : Plan} {env : ℕ → Env} {a b : ℕ} → ChangeBetween plan env a b → ChangeBetween plan env a (suc b)
later_change c = record { change = c.change; after = c.after; up_to = omega arith; changed = c.changed }

between_last : (plan : Plan) → ((v w : Env) → plan.differ v w ≡ false → v ≡ w) → (env : ℕ → Env) (c t a b : ℕ) (d : Bool) → plan.differ (env b) (env (suc b)) ≡ d → a ≤ b → (plan.choose c (env (suc b)) ≡ t → ⊥) → ((plan.choose c (env b) ≡ t → ⊥) → ChangeBetween plan env a b) → ChangeBetween plan env a (suc b)
between_last plan tells env c t a b true e h not before = record { change = suc b; after = omega arith; up_to = omega arith; changed = e }
between_last plan tells env c t a b false e h not before = later_change (before (λ k. not (let same = tells (env b) (env (suc b)) e in cc)))

between_step : (plan : Plan) → ((v w : Env) → plan.differ v w ≡ false → v ≡ w) → (env : ℕ → Env) (c t a b : ℕ) → a ≤ suc b → plan.choose c (env a) ≡ t → (plan.choose c (env (suc b)) ≡ t → ⊥) → (a ≤ b → plan.choose c (env a) ≡ t → (plan.choose c (env b) ≡ t → ⊥) → ChangeBetween plan env a b) → ChangeBetween plan env a (suc b)
between_step plan tells env c t a b h was not before = elim (at_or_below a b h) [
  | inl k ↦ between_last plan tells env c t a b (plan.differ (env b) (env (suc b))) refl k not (before k was)
  | inr e ↦ absurd (not (rw e at was))
]

-- If the choices in two frames differ, then there is a change frame between them.
pub change_between : (plan : Plan) → ((v w : Env) → plan.differ v w ≡ false → v ≡ w) → (env : ℕ → Env) (c t a b : ℕ) → a ≤ b → plan.choose c (env a) ≡ t → (plan.choose c (env b) ≡ t → ⊥) → ChangeBetween plan env a b
change_between plan tells env c t a zero h was not = absurd (not (let e : a ≡ 0 = omega arith in rw e at was))
change_between plan tells env c t a (suc b) h was not = between_step plan tells env c t a b h was not (change_between plan tells env c t a b)
