-- Once the environment has held for the greatest bound, no reconfiguration is under way.
use Rattle.std.proofs.Common.{◌≡◌, ℕ, zero, suc, ◌+◌, ◌-◌, ◌*◌, ◌<◌, ◌≤◌, true, false, refl, arith, ◌⊎◌, ◌≢◌, sym, ◌∙◌, subst}
use mathlib.Core.Logic.{inl, inr}
use Rattle.std.specs.Prelude.{Option, Some, None, nat_eq, ◌&&◌}
use Rattle.scram_types.proofs.Booleans.{not_true}
use Rattle.scram_types.proofs.Naturals.{at_or_below, differ}
use Rattle.trace_props.proofs.Plans.{Plan, IsAcceptedPlan, plan_further, plan_halting}
use Rattle.trace_props.proofs.CourseModes.{CourseMode, CourseMode.Stable, CourseMode.Moving, course_stable_decision, course_wanted, course_is_running}
use Rattle.trace_props.proofs.Courses.{Course, IsCourseWithin, IsCourseFlown, course_changes_at, course_changes_upto, course_decision_after, course_mode_at, CourseReading, CourseReading.Steady, CourseReading.Leaving, course_reading_before}
use Rattle.trace_props.proofs.Tests.{by_test}
use Rattle.trace_props.proofs.Counting.{count_changed, count_le, count_same}
use Rattle.trace_props.proofs.Deadlines.{Deadlines, bound_of, in_bound, kept_in, further_cases}
use Rattle.trace_props.proofs.Coupling.{Coupled, changed_when, coupled}

-- In frame `f`, the configuration of a stable mode is chosen again, and a moving mode satisfies `Deadlines`. These
-- facts do not depend on the rows.
abbrev pub TimedIn : Plan → Course → ℕ → CourseMode → Type 0
TimedIn plan course f (Stable c) = (plan.choose c (course.env f) ≡ c) × (c < plan.configurations)
TimedIn plan course f (Moving from halting to since) = (first : ℕ) × Deadlines plan course first f from halting to since

timed_in : (plan : Plan) (course : Course) (f : ℕ) (rd : CourseReading) (m : CourseMode) → Coupled plan course f rd m → TimedIn plan course f m
timed_in plan course f (Steady c) (Stable k) h = rw h.0 (h.1, h.2)
timed_in plan course f (Steady c) (Moving from halting to since) h = (f, h.deadlines)
timed_in plan course f (Leaving c s) (Stable k) h = absurd h.moves
timed_in plan course f (Leaving c s) (Moving from halting to since) h = (h.first, h.moves.1)

-- In a moving mode, frame `since` is a change frame, no later frame up to frame `f` is a change frame, and the target
-- is chosen again in frame `f`. A stable mode always satisfies the condition.
abbrev pub SeesOneChange : Plan → Course → ℕ → CourseMode → Type 0
SeesOneChange plan course f (Stable c) = Unit {0}
SeesOneChange plan course f (Moving from halting to since) =
    (p : ℕ) × (since ≡ suc p) × (course_changes_at plan course.env (suc p) ≡ true) × (course_changes_upto plan course.env f ≡ course_changes_upto plan course.env since) × (plan.choose to (course.env f) ≡ to)

module _ (plan : Plan) (course : Course) (accepted : IsAcceptedPlan plan) (within : IsCourseWithin plan course) where
  -- If a decision keeps the target, then a moving mode either arrives in the target or continues.
  by_decision : (good : CourseMode → Type 0) (f from : ℕ) (halting : Option ℕ) (to since : ℕ)
      → course_wanted plan from to (course.env (suc f)) ≡ to
      → good (course_stable_decision (suc f) to (plan.choose to (course.env (suc f))))
      → good (Moving from halting to since)
      → good (course_decision_after plan course f (Moving from halting to since))
  by_decision good f from halting to since same arrives goes =
      by_test good (course_is_running plan (Moving from halting to since) f && course.runs f to) _ _
      (λ e. arrives)
      (λ e. by_test good (nat_eq (course_wanted plan from to (course.env (suc f))) to) _ _ (λ k. goes) (λ k. absurd (differ _ _ k same)))

  pub timed : IsCourseFlown plan course → (f : ℕ) → f ≤ course.frames → TimedIn plan course f (course_mode_at plan course f)
  timed flown f inside = timed_in plan course f (course_reading_before plan course f) (course_mode_at plan course f) (coupled plan course accepted within flown f inside)

  same_env : (f : ℕ) → course_changes_at plan course.env (suc f) ≡ false → course.env f ≡ course.env (suc f)
  same_env f calm = accepted.tells (course.env f) (course.env (suc f)) calm

  -- If the configuration of a stable mode is chosen again, then the mode stays stable.
  stays_stable : (good : CourseMode → Type 0) (f c : ℕ) → good (Stable c) → plan.choose c (course.env (suc f)) ≡ c → good (course_stable_decision (suc f) c (plan.choose c (course.env (suc f))))
  stays_stable good f c stable rests = by_test good (nat_eq (plan.choose c (course.env (suc f))) c) _ _ (λ e. stable) (λ e. absurd (differ _ _ e rests))

  -- If a window has at most one change, and the reconfiguration began with a change, then the next frame is not a
  -- change frame.
  no_other : (first f p from : ℕ) (halting : Option ℕ) (to since : ℕ) → suc f ≤ course.frames → plan.changes ≡ 0 → Deadlines plan course first f from halting to since
      → since ≡ suc p → course_changes_at plan course.env (suc p) ≡ true → course_changes_upto plan course.env f ≡ course_changes_upto plan course.env since → course_changes_at plan course.env (suc f) ≡ false
  no_other first f p from halting to since inside none d is began counted = not_true (course_changes_at plan course.env (suc f)) (λ changed.
      let b = bound_of plan course accepted within first f from halting to since (omega arith) d in
      let late = in_bound plan course accepted within first f from halting to since b.0 d b.2 in
      let wide = accepted.windowed from to b.0 b.1 in
      let begun = d.begun in
      let few = within.few (suc f) inside in
      let below = count_le plan course.env (suc f - plan.window) p (omega arith) in
      let one = count_changed plan course.env p began in
      let two = count_changed plan course.env f changed in
      let all : course_changes_upto plan course.env f ≡ course_changes_upto plan course.env (suc p) = rw is at counted in
      absurd (omega arith))

  alone_step : (f : ℕ) → suc f ≤ course.frames → plan.changes ≡ 0 → (m : CourseMode) → TimedIn plan course f m → SeesOneChange plan course f m → SeesOneChange plan course (suc f) (course_decision_after plan course f m)
  alone_step f inside none (Stable c) h alone =
      by_test (SeesOneChange plan course (suc f)) (nat_eq (plan.choose c (course.env (suc f))) c) _ _
      (λ e. tt)
      (λ e. (f, refl, changed_when plan course accepted within f c h.0 (differ _ _ e), refl, accepted.stays c (course.env (suc f)) h.1 (within.scope (suc f) inside)))
  alone_step f inside none (Moving from halting to since) h alone =
      let calm = no_other h.0 f alone.0 from halting to since inside none h.1 alone.1 alone.2 alone.3 in
      let same = same_env f calm in
      let rests : plan.choose to (course.env (suc f)) ≡ to = rw same at alone.4 in
      by_decision (SeesOneChange plan course (suc f)) f from halting to since
      (kept_in plan course accepted within h.0 f from halting to since h.1 calm)
      (stays_stable (SeesOneChange plan course (suc f)) f to tt rests)
      (alone.0, alone.1, alone.2, count_same plan course.env f calm ∙ alone.3, rests)

  alone : IsCourseFlown plan course → plan.changes ≡ 0 → (f : ℕ) → f ≤ course.frames → SeesOneChange plan course f (course_mode_at plan course f)
  alone flown none zero inside = stays_at_start
    where
      stays_at_start : SeesOneChange plan course 0 (course_stable_decision 0 plan.start (plan.choose plan.start (course.env 0)))
      stays_at_start = by_test (SeesOneChange plan course 0) (nat_eq (plan.choose plan.start (course.env 0)) plan.start) _ _ (λ e. tt) (λ e. absurd (differ _ _ e (rw within.opens accepted.starts)))
  alone flown none (suc f) inside =
      alone_step f inside none (course_mode_at plan course f) (timed flown f (omega arith)) (alone flown none f (omega arith))

  -- If the table does not choose the target of a moving mode again, then the bounds allow for at least two further
  -- changes.
  put_off : IsCourseFlown plan course → (f first from : ℕ) (halting : Option ℕ) (to since : ℕ) → f ≤ course.frames → Deadlines plan course first f from halting to since
      → course_mode_at plan course f ≡ Moving from halting to since → plan.choose to (course.env f) ≢ to → 2 ≤ plan_further plan
  put_off flown f first from halting to since inside d moded away = elim (further_cases plan) [
    | inl e ↦ elim (none_or_more plan.changes) [
      | inl none ↦ absurd (away (subst (SeesOneChange plan course f) moded (alone flown none f inside)).4)
      | inr more ↦ omega (arith, e.1)
    ]
    | inr e ↦
        let now : plan.choose from (course.env f) ≡ to = rw (d.fresh e.0) at d.chosen in
        absurd (away (rw now at (accepted.stays from (course.env f) d.from_in (within.scope f inside))))
  ]
    where
      none_or_more : (n : ℕ) → (n ≡ 0) ⊎ (1 ≤ n)
      none_or_more n = grind arith

-- The arithmetic for a reconfiguration that follows another one. The later reconfiguration is over fewer than `b`
-- frames after frame `s`.
followed : (f since halted p i h pj ij q x t b s : ℕ) → f ≤ since + halted + p + i → since ≤ s → halted + 2 ≤ q → p + i + 1 + h ≤ q → 2 ≤ x → 1 + h + x * q + pj + ij ≤ t → t ≤ b
    → suc f + h + pj + ij < s + b
followed f since halted p i h pj ij q x t b s settled old short slow twice enough most = let m : 2 * q ≤ x * q = grind arith in omega arith

-- The mode is stable, or its phases count from frame `s` or earlier, or its target is chosen again and its phases are
-- over fewer than `b` frames after frame `s`.
abbrev pub EndsSoon : Plan → Course → ℕ → ℕ → ℕ → CourseMode → Type 0
EndsSoon plan course s b f (Stable c) = Unit {0}
EndsSoon plan course s b f (Moving from halting to since) =
    (since ≤ s) ⊎ ((plan.choose to (course.env f) ≡ to) × (since + plan_halting plan halting + plan.preparing to + plan.initialising to < s + b))

-- The environment is the same from frame `s` to frame `t`, and no bound is greater than `b`.
pub record IsCalmFrom (plan : Plan) (course : Course) (s b t : ℕ) : Type 0 where
  pub still : (f : ℕ) → s ≤ f → f < t → course_changes_at plan course.env (suc f) ≡ false
  pub most : (i j n : ℕ) → plan.bound i j ≡ Some n → n ≤ b

-- The mode is stable in frame `t`, and its configuration is chosen again there.
pub record IsAtRest (plan : Plan) (course : Course) (t : ℕ) (mode : CourseMode) : Type 0 where
  pub conf : ℕ
  pub known : conf < plan.configurations
  pub moded : mode ≡ Stable conf
  pub chosen : plan.choose conf (course.env t) ≡ conf

module _ (plan : Plan) (course : Course) (accepted : IsAcceptedPlan plan) (within : IsCourseWithin plan course) (flown : IsCourseFlown plan course) where
  -- A halting phase is at least two frames shorter than `plan.slowest`.
  short : (halting : Option ℕ) (to : ℕ) → to < plan.configurations → ((h : ℕ) → halting ≡ Some h → h < plan.configurations) → plan_halting plan halting + 2 ≤ plan.slowest
  short None to aimed known = let slow = accepted.slow to aimed in let lasts = accepted.lasts to aimed in omega arith
  short (Some h) to aimed known = let slow = accepted.slow h (known h refl) in let lasts = accepted.lasts h (known h refl) in omega arith

  module _ (s b t : ℕ) (calm : IsCalmFrom plan course s b t) where
    soon_at : (f : ℕ) (m : CourseMode) → f ≡ s → TimedIn plan course f m → EndsSoon plan course s b f m
    soon_at f (Stable c) is h = tt
    soon_at f (Moving from halting to since) is h = let now = h.1.now in inl (omega arith)

    -- If a reconfiguration ends in a target that is not chosen again, then the next reconfiguration satisfies
    -- `EndsSoon`.
    follows_soon : (f first from : ℕ) (halting : Option ℕ) (to since : ℕ) → suc f ≤ course.frames → course.env f ≡ course.env (suc f) → course_mode_at plan course f ≡ Moving from halting to since
        → Deadlines plan course first f from halting to since → since ≤ s → plan.choose to (course.env (suc f)) ≢ to
        → EndsSoon plan course s b (suc f) (Moving to (Some to) (plan.choose to (course.env (suc f))) (suc f))
    follows_soon f first from halting to since inside same moded d old away =
        let scope = within.scope (suc f) inside in
        let served = accepted.bounded to (course.env (suc f)) d.to_in scope (inl away) in
        let most = calm.most to (plan.choose to (course.env (suc f))) served.0 served.1 in
        let twice = put_off plan course accepted within flown f first from halting to since (omega arith) d moded (λ e. away (rw same at e)) in
        let brief = short halting to d.to_in (λ h e. (d.halts h e).0) in
        inr (
          accepted.stays to (course.env (suc f)) d.to_in scope,
          followed f since (plan_halting plan halting) (plan.preparing to) (plan.initialising to) (plan.halting to)
              (plan.preparing (plan.choose to (course.env (suc f)))) (plan.initialising (plan.choose to (course.env (suc f)))) plan.slowest (plan_further plan) served.0 b s
              d.settled old brief (accepted.slow to d.to_in) twice served.2 most,
        )

    soon_step : (f : ℕ) → suc f ≤ course.frames → course_changes_at plan course.env (suc f) ≡ false → (m : CourseMode) → course_mode_at plan course f ≡ m
        → TimedIn plan course f m → EndsSoon plan course s b f m → EndsSoon plan course s b (suc f) (course_decision_after plan course f m)
    soon_step f inside still (Stable c) moded h soon =
        stays_stable plan course accepted within (EndsSoon plan course s b (suc f)) f c tt (rw (same_env plan course accepted within f still) at h.0)
    soon_step f inside still (Moving from halting to since) moded h soon =
        let same = same_env plan course accepted within f still in
        by_decision plan course accepted within (EndsSoon plan course s b (suc f)) f from halting to since
        (kept_in plan course accepted within h.0 f from halting to since h.1 still)
        (by_test (EndsSoon plan course s b (suc f)) (nat_eq (plan.choose to (course.env (suc f))) to) _ _
        (λ e. tt)
        (λ e. elim soon [
          | inl old ↦ follows_soon f h.0 from halting to since inside same moded h.1 old (differ _ _ e)
          | inr rests ↦ absurd (differ _ _ e (rw same at rests.0))
        ]))
        (elim soon [
          | inl old ↦ inl old
          | inr rests ↦ inr (rw same at rests.0, rests.1)
        ])

    soon : (f : ℕ) → s ≤ f → f ≤ t → t ≤ course.frames → EndsSoon plan course s b f (course_mode_at plan course f)
    soon zero late early inside = soon_at 0 (course_mode_at plan course 0) (omega arith) (timed plan course accepted within flown 0 (omega arith))
    soon (suc f) late early inside = elim (at_or_below s f late) [
      | inl before ↦ soon_step f (omega arith) (calm.still f before (omega arith)) (course_mode_at plan course f) refl (timed plan course accepted within flown f (omega arith)) (soon f before (omega arith) inside)
      | inr is ↦ soon_at (suc f) (course_mode_at plan course (suc f)) (sym is) (timed plan course accepted within flown (suc f) (omega arith))
    ]

    rest_at : (m : CourseMode) → t ≤ course.frames → t ≡ s + b → TimedIn plan course t m → EndsSoon plan course s b t m → IsAtRest plan course t m
    rest_at (Stable c) inside is h soon = record { conf = c; known = h.1; moded = refl; chosen = h.0 }
    rest_at (Moving from halting to since) inside is h soon = elim soon [
      | inl old ↦
          let d = h.1 in
          let given = bound_of plan course accepted within h.0 t from halting to since inside d in
          let late = in_bound plan course accepted within h.0 t from halting to since given.0 d given.2 in
          let most = calm.most from to given.0 given.1 in
          let begun = d.begun in
          absurd (omega arith)
      | inr rests ↦ let settled = h.1.settled in absurd (omega (arith, rests.1))
    ]

    -- No reconfiguration is under way `b` frames after frame `s`.
    pub calm_rests : t ≤ course.frames → t ≡ s + b → IsAtRest plan course t (course_mode_at plan course t)
    calm_rests inside is = rest_at (course_mode_at plan course t) inside is (timed plan course accepted within flown t inside) (soon t (omega arith) (omega arith) inside)
