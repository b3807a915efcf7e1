-- The reading of rows agrees with the mode.
use Rattle.std.proofs.Common.{◌≡◌, ℕ, zero, suc, ◌+◌, ◌-◌, ◌<◌, ◌≤◌, true, false, refl, arith, ◌≢◌, sym, ◌∙◌, subst}
use mathlib.Core.Logic.{inl, inr}
use Rattle.std.specs.Prelude.{Option, Some, None, nat_eq, nat_lt, ◌&&◌}
use Rattle.scram_types.proofs.Booleans.{not_true, not_false, true_false, and_left, and_right, and_false}
use Rattle.scram_types.proofs.Naturals.{equal, differ, below, at_most, above, at_or_below}
use Rattle.trace_props.proofs.Plans.{Plan, IsAcceptedPlan, plan_halting}
use Rattle.trace_props.proofs.CourseModes.{CourseMode, CourseMode.Stable, CourseMode.Moving, course_stable_decision, course_turn, course_wanted, course_is_running}
use Rattle.trace_props.proofs.Courses.{Course, IsCourseWithin, IsCourseFlown, CourseRowUnder, course_changes_at, course_decision_after, course_mode_at, CourseReading, CourseReading.Steady, CourseReading.Leaving, course_arrive, course_read_row, course_reading_before, course_arrival, course_report_of, course_report_at}
use Rattle.trace_props.proofs.Promises.{CourseHasCause, CourseFollows, course_first_moving}
use Rattle.trace_props.proofs.Tests.{by_test}
use Rattle.trace_props.proofs.Counting.{ChangeBetween, change_between}
use Rattle.trace_props.proofs.Deadlines.{Deadlines, begins, stays, turns_early, turns_anew, wanted_runs, room_of}

-- The mode of frame `f` continues a reconfiguration from `c` whose first moving frame is `first`.
abbrev pub MovesOn : Plan → Course → ℕ → ℕ → ℕ → CourseMode → Type 0
MovesOn plan course first f c (Stable k) = ⊥
MovesOn plan course first f c (Moving from halting to since) = (from ≡ c) × Deadlines plan course first f from halting to since

pub record Starts (plan : Plan) (course : Course) (f c from : ℕ) (halting : Option ℕ) (to since : ℕ) : Type 0 where
  pub same : from ≡ c
  pub new : since ≡ f
  pub deadlines : Deadlines plan course f f from halting to since
  pub cause : CourseHasCause plan course f

abbrev pub SteadyIn : Plan → Course → ℕ → ℕ → CourseMode → Type 0
SteadyIn plan course f c (Stable k) = (k ≡ c) × (plan.choose c (course.env f) ≡ c) × (c < plan.configurations)
SteadyIn plan course f c (Moving from halting to since) = Starts plan course f c from halting to since

pub record LeavingIn (plan : Plan) (course : Course) (f c s : ℕ) (mode : CourseMode) : Type 0 where
  pub first : ℕ
  pub from_begin : s ≤ first
  pub by_next : first ≤ suc s
  pub first_is : first ≡ course_first_moving plan course s
  pub moves : MovesOn plan course first f c mode
  pub cause : CourseHasCause plan course s

abbrev pub Coupled : Plan → Course → ℕ → CourseReading → CourseMode → Type 0
Coupled plan course f (Steady c) mode = SteadyIn plan course f c mode
Coupled plan course f (Leaving c s) mode = LeavingIn plan course f c s mode

pub by_arrival : (good : CourseReading → Type 0) (c s : ℕ) (o : Option ℕ) → (o ≡ None → good (Leaving c s)) → ((j : ℕ) → o ≡ Some j → good (Steady j)) → good (course_arrive c s o)
by_arrival good c s None none some = none refl
by_arrival good c s (Some j) none some = some j refl

module _ (plan : Plan) (course : Course) (accepted : IsAcceptedPlan plan) (within : IsCourseWithin plan course) where
  -- If a moving mode has not arrived, then the next decision continues its reconfiguration.
  pub moves_on : (first f from : ℕ) (halting : Option ℕ) (to since : ℕ) → suc f ≤ course.frames → Deadlines plan course first f from halting to since → course_mode_at plan course f ≡ Moving from halting to since
      → (course_is_running plan (Moving from halting to since) f ≡ true → plan.is_runnable to (course.env (suc f)) ≡ false)
      → MovesOn plan course first (suc f) from (course_turn plan (suc f) from halting to since (course_is_running plan (Moving from halting to since) f) (course_wanted plan from to (course.env (suc f))))
  moves_on first f from halting to since inside d moded gone =
      by_test (MovesOn plan course first (suc f) from) (nat_eq (course_wanted plan from to (course.env (suc f))) to) _ _
      (λ e. (refl, kept (equal _ _ e)))
      (λ e. by_test (MovesOn plan course first (suc f) from) (nat_lt (suc f - since) (plan_halting plan halting)) _ _
      (λ early. (refl, turns_early plan course accepted within first f from halting to since inside d (differ _ _ e) (below _ _ early)))
      (λ late. by_test (MovesOn plan course first (suc f) from) (course_is_running plan (Moving from halting to since) f) _ _
      (λ settled. (refl, turns_anew plan course accepted within first f from halting (Some to) to since inside d (differ _ _ e) (omega arith) (λ h e. cc)))
      (λ unsettled. (refl, turns_anew plan course accepted within first f from halting None to since inside d (differ _ _ e) (omega arith) (λ h e. cc)))))
    where
      kept : course_wanted plan from to (course.env (suc f)) ≡ to → Deadlines plan course first (suc f) from halting to since
      kept same =
          let runs = rw same at (wanted_runs plan course accepted within from to (course.env (suc f)) d.from_in (within.scope (suc f) inside)) in
          let unsettled = not_true (course_is_running plan (Moving from halting to since) f) (λ r. true_false _ runs (gone r)) in
          let short = above (plan_halting plan halting + plan.preparing to + plan.initialising to) (f - since) unsettled in
          let now = d.now in
          stays plan course accepted within first f from halting to since inside d same (omega arith) moded

  -- A decision from a configuration that runs agrees with a steady reading.
  pub steady_on : (f c : ℕ) → f ≤ course.frames → c < plan.configurations → (plan.choose c (course.env f) ≢ c → CourseHasCause plan course f)
      → (plan.choose c (course.env f) ≢ c → plan.settles ≡ false → (p : ℕ) × (f ≡ suc p) × (course_changes_at plan course.env (suc p) ≡ true))
      → SteadyIn plan course f c (course_stable_decision f c (plan.choose c (course.env f)))
  steady_on f c inside known cause change =
      by_test (SteadyIn plan course f c) (nat_eq (plan.choose c (course.env f)) c) _ _
      (λ e. (refl, equal _ _ e, known))
      (λ e. let away = differ (plan.choose c (course.env f)) c e in
      record { same = refl; new = refl; deadlines = begins plan course accepted within f c inside known away (room_of plan course accepted within f (change away)); cause = cause away })

  -- The choice from `c` changes only in a change frame.
  pub changed_when : (f c : ℕ) → plan.choose c (course.env f) ≡ c → plan.choose c (course.env (suc f)) ≢ c → course_changes_at plan course.env (suc f) ≡ true
  changed_when f c was away = not_false (course_changes_at plan course.env (suc f)) (λ calm. away (let same = accepted.tells (course.env f) (course.env (suc f)) calm in cc))

  -- After a frame in which the mode was stable, the reading agrees with the next mode, whether or not an application
  -- was lost.
  pub after_stable : (f c : ℕ) → suc f ≤ course.frames → c < plan.configurations → plan.choose c (course.env f) ≡ c → CourseRowUnder plan course f (Stable c) → course_mode_at plan course f ≡ Stable c
      → Coupled plan course (suc f) (course_read_row course f (Steady c)) (course_decision_after plan course f (Stable c))
  after_stable f c inside known current row moded =
      by_test (λ r. Coupled plan course (suc f) r (course_decision_after plan course f (Stable c))) (course.runs f c) (Steady c) (Leaving c f)
      (λ ran. steady_on (suc f) c inside known (λ away. inl (changed_when f c current away)) (λ away prompt. (f, refl, changed_when f c current away)))
      (λ left. by_test (λ m. LeavingIn plan course (suc f) c f m) (nat_eq (plan.choose c (course.env (suc f))) c) _ _
      (λ e. absurd (true_false _ (rw (equal _ _ e) at (accepted.runnable c (course.env (suc f)) known (within.scope (suc f) inside)))
      (row.lost refl left (rw current at (accepted.runnable c (course.env f) known (within.scope f (omega arith)))))))
      (λ e. let away = differ (plan.choose c (course.env (suc f))) c e in
      let changed = changed_when f c current away in
      record {
        first = suc f;
        from_begin = omega arith;
        by_next = omega arith;
        first_is = rw moded refl;
        moves = (refl, begins plan course accepted within (suc f) c inside known away (room_of plan course accepted within (suc f) (λ prompt. (f, refl, changed))));
        cause = inr (inl changed);
      }))

  -- If a moving mode did not arrive in frame `f`, then its reconfiguration continues in the next frame.
  pub not_arrived : (first f from : ℕ) (halting : Option ℕ) (to since : ℕ) → suc f ≤ course.frames → Deadlines plan course first f from halting to since
      → CourseRowUnder plan course f (Moving from halting to since) → course_mode_at plan course f ≡ Moving from halting to since
      → (course_is_running plan (Moving from halting to since) f ≡ true → course.runs f to ≡ false)
      → MovesOn plan course first (suc f) from (course_decision_after plan course f (Moving from halting to since))
  not_arrived first f from halting to since inside d row moded left =
      by_test (MovesOn plan course first (suc f) from) (course_is_running plan (Moving from halting to since) f && course.runs f to) _ _
      (λ arrived. absurd (true_false _ (and_right _ _ arrived) (left (and_left _ _ arrived))))
      (λ e. moves_on first f from halting to since inside d moded (λ running. row.lost running (left running) d.runnable))

  -- If the reading is steady before the first moving frame, then after that frame the reading agrees with the next
  -- mode.
  pub after_start : (f c from : ℕ) (halting : Option ℕ) (to since : ℕ) → suc f ≤ course.frames → Starts plan course f c from halting to since
      → CourseRowUnder plan course f (Moving from halting to since) → course_mode_at plan course f ≡ Moving from halting to since
      → Coupled plan course (suc f) (course_read_row course f (Steady c)) (course_decision_after plan course f (Moving from halting to since))
  after_start f c from halting to since inside st row moded =
      by_test (λ r. Coupled plan course (suc f) r (course_decision_after plan course f (Moving from halting to since))) (course.runs f c) (Steady c) (Leaving c f)
      (λ ran. absurd (true_false _ (row.only c ran).0 young))
      (λ left. record {
        first = f;
        from_begin = omega arith;
        by_next = omega arith;
        first_is = rw moded refl;
        moves = subst (λ k. MovesOn plan course f (suc f) k (course_decision_after plan course f (Moving from halting to since))) st.same
            (not_arrived f f from halting to since inside st.deadlines row moded (λ running. absurd (true_false _ running young)));
        cause = st.cause;
      })
    where
      young : course_is_running plan (Moving from halting to since) f ≡ false
      young = not_true (course_is_running plan (Moving from halting to since) f) (λ r.
          let old = at_most (plan_halting plan halting + plan.preparing to + plan.initialising to) (f - since) r in
          let lasts = accepted.lasts to st.deadlines.to_in in
          let new = st.new in
          omega arith)

  -- If the reading has left a configuration before a moving frame, then after that frame the reading agrees with the
  -- next mode.
  pub after_leaving : (f c s first from : ℕ) (halting : Option ℕ) (to since : ℕ) → suc f ≤ course.frames → s ≤ first → first ≤ suc s → first ≡ course_first_moving plan course s → from ≡ c → Deadlines plan course first f from halting to since → CourseHasCause plan course s
      → CourseRowUnder plan course f (Moving from halting to since) → course_mode_at plan course f ≡ Moving from halting to since
      → course_report_at plan course f ≡ course_report_of course f (Leaving c s)
      → Coupled plan course (suc f) (course_read_row course f (Leaving c s)) (course_decision_after plan course f (Moving from halting to since))
  after_leaving f c s first from halting to since inside begun soon is same d cause row moded reported =
      by_arrival (λ r. Coupled plan course (suc f) r (course_decision_after plan course f (Moving from halting to since))) c s (course.running f)
      (λ none. record {
        first = first;
        from_begin = begun;
        by_next = soon;
        first_is = is;
        moves = subst (λ k. MovesOn plan course first (suc f) k (course_decision_after plan course f (Moving from halting to since))) same
            (not_arrived first f from halting to since inside d row moded (λ running. row.none_runs none to));
        cause = cause;
      })
      (λ j some. arrived j some (row.one_runs j some))
    where
      held : plan.choose to (course.env d.chosen_at) ≡ to
      held = rw d.chosen at (accepted.stays from (course.env d.chosen_at) d.from_in (within.scope d.chosen_at (omega arith)))

      follows : (j : ℕ) → course.running f ≡ Some j → (g : ChangeBetween plan course.env d.chosen_at (suc f)) → g.change ≤ f → CourseFollows plan course (suc f)
      follows j some g early =
          let after = g.after in
          let said : course_arrival c s f (course.running f) ≡ Some (record { from = c; to = j; begin = s; end = f }) = rw some refl in
          record {
            settles = not_false plan.settles (λ prompt. let at = d.fresh prompt in omega arith);
            before = record { from = c; to = j; begin = s; end = f };
            last = refl;
            reported = reported ∙ said;
            change = g.change;
            after = omega arith;
            up_to = early;
            changed = g.changed;
          }

      cause_next : (j : ℕ) → course.running f ≡ Some j → ChangeBetween plan course.env d.chosen_at (suc f) → CourseHasCause plan course (suc f)
      cause_next j some g = elim (at_or_below g.change f g.up_to) [
        | inl early ↦ inr (inr (follows j some g early))
        | inr e ↦ inl (rw e at g.changed)
      ]

      change_next : plan.choose to (course.env (suc f)) ≢ to → plan.settles ≡ false → (p : ℕ) × (suc f ≡ suc p) × (course_changes_at plan course.env (suc p) ≡ true)
      change_next away prompt = (f, refl, changed_when f to (rw (d.fresh prompt) at held) away)

      arrived : (j : ℕ) → course.running f ≡ Some j → course.runs f j ≡ true → SteadyIn plan course (suc f) j (course_decision_after plan course f (Moving from halting to since))
      arrived j some ran =
          let o = row.only j ran in
          let ran_to : course.runs f to ≡ true = rw o.1 ran in
          subst (λ k. SteadyIn plan course (suc f) k (course_decision_after plan course f (Moving from halting to since))) o.1
          (by_test (SteadyIn plan course (suc f) to) (course_is_running plan (Moving from halting to since) f && course.runs f to) _ _
          (λ come. steady_on (suc f) to inside d.to_in
          (λ away. cause_next j some (change_between plan accepted.tells course.env to to d.chosen_at (suc f) (omega arith) held away))
          change_next)
          (λ e. true_false _ ran_to (and_false _ _ e o.0)))

  -- If the reading agrees with the mode in a frame, then the next reading agrees with the next mode.
  pub coupled_step : (f : ℕ) → suc f ≤ course.frames → (r : CourseReading) (m : CourseMode) → Coupled plan course f r m → CourseRowUnder plan course f m
      → course_report_at plan course f ≡ course_report_of course f r → course_mode_at plan course f ≡ m → Coupled plan course (suc f) (course_read_row course f r) (course_decision_after plan course f m)
  coupled_step f inside (Steady c) (Stable k) h row reported moded =
      subst (λ x. Coupled plan course (suc f) (course_read_row course f (Steady c)) (course_decision_after plan course f (Stable x))) (sym h.0)
      (after_stable f c inside h.2 h.1 (subst (λ x. CourseRowUnder plan course f (Stable x)) h.0 row) (rw h.0 at moded))
  coupled_step f inside (Steady c) (Moving from halting to since) h row reported moded = after_start f c from halting to since inside h row moded
  coupled_step f inside (Leaving c s) (Stable k) h row reported moded = absurd h.moves
  coupled_step f inside (Leaving c s) (Moving from halting to since) h row reported moded =
      after_leaving f c s h.first from halting to since inside h.from_begin h.by_next h.first_is h.moves.0 h.moves.1 h.cause row moded reported

  -- In each frame of a flown course the reading agrees with the mode.
  pub coupled : IsCourseFlown plan course → (f : ℕ) → f ≤ course.frames → Coupled plan course f (course_reading_before plan course f) (course_mode_at plan course f)
  coupled flown zero inside =
      let opens : plan.choose plan.start (course.env 0) ≡ plan.start = rw within.opens accepted.starts in
      steady_on 0 plan.start inside accepted.start_in (λ away. absurd (away opens)) (λ away prompt. absurd (away opens))
  coupled flown (suc f) inside =
      coupled_step f inside (course_reading_before plan course f) (course_mode_at plan course f) (coupled flown f (omega arith)) (flown f inside) refl refl
