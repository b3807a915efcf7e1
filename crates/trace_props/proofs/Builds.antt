-- Lemmas that rows that result from orders satisfy `CourseRowUnder`.
use Rattle.std.proofs.Common.{◌≡◌, ℕ, zero, suc, ◌+◌, ◌-◌, ◌<◌, ◌≤◌, Bool, true, false, refl, arith, ◌⊎◌, ap, sym, ◌∙◌}
use mathlib.Core.Logic.{inl, inr}
use Rattle.std.specs.Prelude.{Option, Some, None, if◌then◌else◌, nat_eq, nat_lt, nat_le, ◌&&◌}
use Rattle.scram_types.specs.declared.rows.Env.{Env}
use Rattle.scram_types.specs.declared.specification.Place.{Place}
use Rattle.scram_types.proofs.Searches.{all_each, fails_below}
use Rattle.scram_types.specs.Searches.{least_from, all_below}
use Rattle.scram_types.proofs.Booleans.{not_true, true_false, and_left, and_right, and_true}
use Rattle.scram_types.proofs.Naturals.{equal, below, not_below, equal_test, at_most_test, above_test}
use Rattle.trace_props.proofs.Plans.{Plan, IsAcceptedPlan, plan_halting}
use Rattle.trace_props.proofs.CourseModes.{CourseMode, CourseMode.Stable, CourseMode.Moving, course_target, course_is_running, course_stable_decision, course_wanted, course_turn}
use Rattle.trace_props.proofs.Courses.{Course, IsCourseFlown, CourseRowUnder, course_mode_at, course_decision_after}
use Rattle.trace_props.proofs.CourseRows.{CoursePhase, CoursePhase.Running, CoursePhase.Halting, CoursePhase.Preparing, CoursePhase.Initialising, CourseOrder, CourseOrder.Run, CourseOrder.Halt, CourseOrder.Hold, CourseOrder.Prepare, CourseOrder.Init, CourseOrder.Off, CourseAct, CourseAct.Ran, CourseAct.Lost, Build, course_after_halting, course_phase, course_running_order, course_halting_order, course_preparing_order, course_initialising_order, course_order_in, course_act_of, place_eq, course_is_ran, course_is_off, course_fits_place, course_runs, course_acts_at, IsBuilt, IsRun, ReconfiguresBuilt}
use Rattle.trace_props.proofs.Tests.{by_test}
use Rattle.trace_props.proofs.Assurances.{reconfigures}

le_or : (a b : ℕ) → a ≤ b → (suc a ≤ b) ⊎ (a ≡ b)
le_or a b h = grind arith

-- Lemmas that state the results of `all_below` and `least_from` as facts.
pub all_at : (test : ℕ → Bool) (n : ℕ) → all_below test n ≡ true → (a : ℕ) → a < n → test a ≡ true
all_at test n h a below = all_each test n a h below

least_holds_in : (test : ℕ → Bool) (i n j : ℕ) (b : Bool) → test i ≡ b → (if b then Some i else least_from test (suc i) n) ≡ Some j → (least_from test (suc i) n ≡ Some j → test j ≡ true) → test j ≡ true
least_holds_in test i n j true e h below = let same : i ≡ j = cc in rw (← same) e
least_holds_in test i n j false e h below = below h

pub least_holds : (test : ℕ → Bool) (i n j : ℕ) → least_from test i n ≡ Some j → test j ≡ true
least_holds test i zero j h = cc
least_holds test i (suc n) j h = least_holds_in test i n j (test i) refl h (least_holds test (suc i) n j)

least_none_in : (test : ℕ → Bool) (i n j : ℕ) (b : Bool) → test i ≡ b → (if b then Some i else least_from test (suc i) n) ≡ None → i ≤ j → (least_from test (suc i) n ≡ None → suc i ≤ j → test j ≡ false) → test j ≡ false
least_none_in test i n j true e h from later = cc
least_none_in test i n j false e h from later = elim (le_or i j from) [
  | inl k ↦ later h k
  | inr k ↦ rw k at e
]

pub least_none : (test : ℕ → Bool) (i n : ℕ) → least_from test i n ≡ None → (j : ℕ) → i ≤ j → j < i + n → test j ≡ false
least_none test i zero h j from below = absurd (omega arith)
least_none test i (suc n) h j from below = least_none_in test i n j (test i) refl h from (λ e k. least_none test (suc i) n e j k (omega arith))

-- The order is neither `Run` nor `Off`. The act of such an order fits no place.
abbrev pub Idle : CourseOrder → Type 0
Idle (Run p) = ⊥
Idle (Halt k n p) = Unit {0}
Idle (Hold p) = Unit {0}
Idle (Prepare k n p) = Unit {0}
Idle (Init k n p) = Unit {0}
Idle Off = ⊥

idle_fits : (commits : ℕ → Bool) (o : CourseOrder) (place : Option Place) → Idle o → course_fits_place place (course_act_of commits o) ≡ false
idle_fits commits (Run p) place h = absurd h
idle_fits commits Off place h = absurd h
idle_fits commits (Halt k n p) None h = by_test (λ x. course_is_off x ≡ false) (commits p.proc.0) _ _ (λ e. refl) (λ e. refl)
idle_fits commits (Halt k n p) (Some q) h = by_test (λ x. course_is_ran q x ≡ false) (commits p.proc.0) _ _ (λ e. refl) (λ e. refl)
idle_fits commits (Hold p) None h = by_test (λ x. course_is_off x ≡ false) (commits p.proc.0) _ _ (λ e. refl) (λ e. refl)
idle_fits commits (Hold p) (Some q) h = by_test (λ x. course_is_ran q x ≡ false) (commits p.proc.0) _ _ (λ e. refl) (λ e. refl)
idle_fits commits (Prepare k n p) None h = by_test (λ x. course_is_off x ≡ false) (commits p.proc.0) _ _ (λ e. refl) (λ e. refl)
idle_fits commits (Prepare k n p) (Some q) h = by_test (λ x. course_is_ran q x ≡ false) (commits p.proc.0) _ _ (λ e. refl) (λ e. refl)
idle_fits commits (Init k n p) None h = by_test (λ x. course_is_off x ≡ false) (commits p.proc.0) _ _ (λ e. refl) (λ e. refl)
idle_fits commits (Init k n p) (Some q) h = by_test (λ x. course_is_ran q x ≡ false) (commits p.proc.0) _ _ (λ e. refl) (λ e. refl)

-- In each phase but the running one, an application that is on has an idle order.
idle_halting : (time age : ℕ) (p : Place) → Idle (course_halting_order 0 time age (Some p))
idle_halting time age p = by_test Idle (nat_lt age 0) _ _ (λ e. absurd (let h = below age 0 e in omega arith))
    (λ e. by_test Idle (nat_lt (age - 0) time) _ _ (λ h. tt) (λ h. tt))

idle_preparing : (time age : ℕ) (p : Place) → Idle (course_preparing_order time age (Some p))
idle_preparing time age p = by_test Idle (nat_lt age time) _ _ (λ h. tt) (λ h. tt)

idle_init : (offset time age : ℕ) (p : Place) → Idle (course_initialising_order offset time age (Some p))
idle_init offset time age p = by_test Idle (nat_lt age offset) _ _ (λ e. tt) (λ e. by_test Idle (nat_lt (age - offset) time) _ _ (λ h. tt) (λ h. tt))

-- The configuration of a phase.
abbrev pub conf_of : CoursePhase → ℕ
conf_of (Running c) = c
conf_of (Halting c age) = c
conf_of (Preparing c age) = c
conf_of (Initialising c age) = c

abbrev pub runs_in : CoursePhase → Bool
runs_in (Running c) = true
runs_in (Halting c age) = false
runs_in (Preparing c age) = false
runs_in (Initialising c age) = false

place_made : (a b c d : ℕ) → a ≡ c → b ≡ d → ◌≡◌ {A = Place} (record { mode = record { 0 = a }; proc = record { 0 = b } }) (record { mode = record { 0 = c }; proc = record { 0 = d } })
place_made a b c d p q = rw (p, q) refl

pub place_same : (p q : Place) → place_eq p q ≡ true → p ≡ q
place_same p q h = place_made p.mode.0 p.proc.0 q.mode.0 q.proc.0 (equal p.mode.0 q.mode.0 (and_left _ _ h)) (equal p.proc.0 q.proc.0 (and_right _ _ h))

pub place_self : (p : Place) → place_eq p p ≡ true
place_self p = and_true _ _ (equal_test p.mode.0 p.mode.0 refl) (equal_test p.proc.0 p.proc.0 refl)

-- Lemmas on the act of a run order. The act fits no place but the order's place. It fits the order's place if the
-- processor of that place commits.
ran_none : (b : Bool) (p : Place) → course_is_off (if b then Ran p else Lost) ≡ true → ⊥
ran_none true p h = true_false false h refl
ran_none false p h = true_false false h refl

ran_some : (b : Bool) (p q : Place) → course_is_ran q (if b then Ran p else Lost) ≡ true → q ≡ p
ran_some true p q h = sym (place_same p q h)
ran_some false p q h = absurd (true_false false h refl)

ran_not : (b : Bool) (p : Place) → course_is_ran p (if b then Ran p else Lost) ≡ false → b ≡ false
ran_not true p h = absurd (true_false _ (place_self p) h)
ran_not false p h = refl

fits_running : (commits : ℕ → Bool) (there place : Option Place) → course_fits_place place (course_act_of commits (course_running_order there)) ≡ true → place ≡ there
fits_running commits None None h = refl
fits_running commits None (Some p) h = absurd (true_false false h refl)
fits_running commits (Some p) None h = absurd (ran_none (commits p.proc.0) p h)
fits_running commits (Some p) (Some q) h = ap Some (ran_some (commits p.proc.0) p q h)

-- If the act of a running order does not fit the order's place, then the place's processor did not commit.
lost_running : (commits : ℕ → Bool) (there : Option Place) → course_fits_place there (course_act_of commits (course_running_order there)) ≡ false → (p : Place) × (there ≡ Some p) × (commits p.proc.0 ≡ false)
lost_running commits None h = absurd (true_false true refl h)
lost_running commits (Some p) h = (p, refl, ran_not (commits p.proc.0) p h)

-- The phase agrees with the mode in frame `f`. The phase is the running phase if and only if the mode is to run its
-- target. The configuration of the phase exists, and in the running phase it is the mode's target.
abbrev pub InPhase : Plan → CourseMode → ℕ → CoursePhase → Type 0
InPhase plan mode f ph = (runs_in ph ≡ course_is_running plan mode f) × (conf_of ph < plan.configurations) × (runs_in ph ≡ true → conf_of ph ≡ course_target mode)

-- The configurations of the mode exist.
abbrev pub Ranged : Plan → CourseMode → Type 0
Ranged plan (Stable c) = c < plan.configurations
Ranged plan (Moving from halting to since) = (from < plan.configurations) × (to < plan.configurations) × ((h : ℕ) → halting ≡ Some h → h < plan.configurations)

-- The phase `late` frames after a halting phase of length `h` runs if and only if all phases are past, and its
-- configuration is the target.
phase_after : (plan : Plan) (h to age late : ℕ) → age ≡ h + late
    → (runs_in (course_after_halting plan to late) ≡ nat_le (h + plan.preparing to + plan.initialising to) age) × (conf_of (course_after_halting plan to late) ≡ to)
phase_after plan h to age late is =
    by_test (λ p. (runs_in p ≡ nat_le (h + plan.preparing to + plan.initialising to) age) × (conf_of p ≡ to)) (nat_lt late (plan.preparing to)) _ _
    (λ e. let k = below late (plan.preparing to) e in (sym (above_test (h + plan.preparing to + plan.initialising to) age (omega arith)), refl))
    (λ e. let k = not_below late (plan.preparing to) e in
    by_test (λ p. (runs_in p ≡ nat_le (h + plan.preparing to + plan.initialising to) age) × (conf_of p ≡ to)) (nat_lt (late - plan.preparing to) (plan.initialising to)) _ _
    (λ e2. let k2 = below (late - plan.preparing to) (plan.initialising to) e2 in (sym (above_test (h + plan.preparing to + plan.initialising to) age (omega arith)), refl))
    (λ e2. let k2 = not_below (late - plan.preparing to) (plan.initialising to) e2 in (sym (at_most_test (h + plan.preparing to + plan.initialising to) age (omega arith)), refl)))

in_phase : (plan : Plan) (mode : CourseMode) (f : ℕ) → Ranged plan mode → InPhase plan mode f (course_phase plan mode f)
in_phase plan (Stable c) f r = (refl, r, λ e. refl)
in_phase plan (Moving from None to since) f r = let p = phase_after plan 0 to (f - since) (f - since) (omega arith) in (p.0, rw p.1 r.1, λ e. p.1)
in_phase plan (Moving from (Some h) to since) f r =
    by_test (λ p. InPhase plan (Moving from (Some h) to since) f p) (nat_lt (f - since) (plan.halting h)) _ _
    (λ e. let k = below (f - since) (plan.halting h) e in
    let small : nat_le (plan.halting h + plan.preparing to + plan.initialising to) (f - since) ≡ false = above_test (plan.halting h + plan.preparing to + plan.initialising to) (f - since) (omega arith) in
    (sym small, r.2 h refl, λ t. absurd (true_false false t refl)))
    (λ e. let k = not_below (f - since) (plan.halting h) e in
    let p = phase_after plan (plan.halting h) to (f - since) (f - since - plan.halting h) (omega arith) in (p.0, rw p.1 r.1, λ t. p.1))

module _ (plan : Plan) (course : Course) (accepted : IsAcceptedPlan plan) where
  ranged_stable : (f c : ℕ) (v : Env) → c < plan.configurations → Ranged plan (course_stable_decision f c (plan.choose c v))
  ranged_stable f c v known = by_test (Ranged plan) (nat_eq (plan.choose c v) c) _ _ (λ e. known) (λ e. (known, accepted.choose_in c v known, λ h e. let is : c ≡ h = cc in rw is at known))

  ranged_wanted : (from to : ℕ) (v : Env) → from < plan.configurations → to < plan.configurations → course_wanted plan from to v < plan.configurations
  ranged_wanted from to v known aimed = by_test (λ k. k < plan.configurations) (plan.settles && plan.is_runnable to v) _ _ (λ e. aimed) (λ e. accepted.choose_in from v known)

  ranged_retarget : (f from : ℕ) (halting : Option ℕ) (to since : ℕ) (settled : Bool) (t : ℕ) → Ranged plan (Moving from halting to since) → t < plan.configurations → Ranged plan (course_turn plan f from halting to since settled t)
  ranged_retarget f from halting to since settled t r known =
      by_test (Ranged plan) (nat_eq t to) _ _ (λ e. r)
      (λ e. by_test (Ranged plan) (nat_lt (f - since) (plan_halting plan halting)) _ _ (λ e. (r.0, known, r.2))
      (λ e. by_test (Ranged plan) settled _ _ (λ e. (r.0, known, λ h e. let is : to ≡ h = cc in rw is at r.1)) (λ e. (r.0, known, λ h e. cc))))

  ranged_step : (f : ℕ) (m : CourseMode) → Ranged plan m → Ranged plan (course_decision_after plan course f m)
  ranged_step f (Stable c) r = ranged_stable (suc f) c (course.env (suc f)) r
  ranged_step f (Moving from halting to since) r =
      by_test (Ranged plan) (course_is_running plan (Moving from halting to since) f && course.runs f to) _ _
      (λ e. ranged_stable (suc f) to (course.env (suc f)) r.1)
      (λ e. ranged_retarget (suc f) from halting to since _ _ r (ranged_wanted from to (course.env (suc f)) r.0 r.1))

  pub ranged : (f : ℕ) → Ranged plan (course_mode_at plan course f)
  ranged zero = ranged_stable 0 plan.start (course.env 0) accepted.start_in
  ranged (suc f) = ranged_step f (course_mode_at plan course f) (ranged f)

  module _ (build : Build) (commits : ℕ → ℕ → Bool) (built : IsBuilt plan build) (run : IsRun plan build course commits) where
    -- In a phase that does not run, the acts do not run any configuration.
    busy : (acts : ℕ → CourseAct) (committed : ℕ → Bool) (ph : CoursePhase) (j : ℕ) → conf_of ph < plan.configurations → runs_in ph ≡ false → ((a : ℕ) → acts a ≡ course_act_of committed (course_order_in build ph a)) → course_runs build acts j ≡ true → ⊥
    busy acts committed (Running c) j known idle is h = true_false true refl idle
    busy acts committed (Halting c age) j known idle is h =
        let on = built.first_halts c known in
        let fits = all_at (λ a. course_fits_place (build.place j a) (acts a)) build.apps h on.0 on.2 in
        true_false _ fits (rw (is on.0, on.3, on.4) (idle_fits committed (course_halting_order 0 (build.halt_time c on.0) age (Some on.1)) (build.place j on.0) (idle_halting (build.halt_time c on.0) age on.1)))
    busy acts committed (Preparing c age) j known idle is h =
        let on = built.first_halts c known in
        let fits = all_at (λ a. course_fits_place (build.place j a) (acts a)) build.apps h on.0 on.2 in
        true_false _ fits (rw (is on.0, on.3) (idle_fits committed (course_preparing_order (build.prepare_time c on.0) age (Some on.1)) (build.place j on.0) (idle_preparing (build.prepare_time c on.0) age on.1)))
    busy acts committed (Initialising c age) j known idle is h =
        let on = built.first_halts c known in
        let fits = all_at (λ a. course_fits_place (build.place j a) (acts a)) build.apps h on.0 on.2 in
        true_false _ fits (rw (is on.0, on.3) (idle_fits committed (course_initialising_order (build.init_offset c on.0) (build.init_time c on.0) age (Some on.1)) (build.place j on.0) (idle_init (build.init_offset c on.0) (build.init_time c on.0) age on.1)))

    -- If the acts of the running phase of `c` run configuration `j`, then `j` is `c`.
    alone : (acts : ℕ → CourseAct) (committed : ℕ → Bool) (c j : ℕ) → c < plan.configurations → ((a : ℕ) → acts a ≡ course_act_of committed (course_running_order (build.place c a))) → course_runs build acts j ≡ true → c ≡ j
    alone acts committed c j known is h =
        let same : (a : ℕ) → a < build.apps → build.place j a ≡ build.place c a = λ a below.
        fits_running committed (build.place c a) (build.place j a) (rw (is a) at (all_at (λ a. course_fits_place (build.place j a) (acts a)) build.apps h a below)) in
        let on = built.first_halts c known in
        let there : build.place j on.0 ≡ Some on.1 = same on.0 on.2 ∙ on.3 in
        sym (built.differ j c (built.placed_in j on.0 on.1 there) known same)

    only_in : (acts : ℕ → CourseAct) (committed : ℕ → Bool) (ph : CoursePhase) (j : ℕ) → conf_of ph < plan.configurations → ((a : ℕ) → acts a ≡ course_act_of committed (course_order_in build ph a)) → course_runs build acts j ≡ true → (runs_in ph ≡ true) × (conf_of ph ≡ j)
    only_in acts committed (Running c) j known is h = (refl, alone acts committed c j known is h)
    only_in acts committed (Halting c age) j known is h = absurd (busy acts committed (Halting c age) j known refl is h)
    only_in acts committed (Preparing c age) j known is h = absurd (busy acts committed (Preparing c age) j known refl is h)
    only_in acts committed (Initialising c age) j known is h = absurd (busy acts committed (Initialising c age) j known refl is h)

    -- If the acts of a running phase do not run its configuration, then a processor that the configuration uses did
    -- not commit.
    lost_in : (acts : ℕ → CourseAct) (committed : ℕ → Bool) (ph : CoursePhase) → runs_in ph ≡ true → ((a : ℕ) → acts a ≡ course_act_of committed (course_order_in build ph a)) → course_runs build acts (conf_of ph) ≡ false
        → (a : ℕ) × (p : Place) × (a < build.apps) × (build.place (conf_of ph) a ≡ Some p) × (committed p.proc.0 ≡ false)
    lost_in acts committed (Running c) r is h =
        let some = fails_below (λ a. course_fits_place (build.place c a) (acts a)) build.apps h in
        let l = lost_running committed (build.place c some.0) (rw (is some.0) at some.2) in
        (some.0, l.0, some.1, l.1, l.2)
    lost_in acts committed (Halting c age) r is h = absurd (true_false false r refl)
    lost_in acts committed (Preparing c age) r is h = absurd (true_false false r refl)
    lost_in acts committed (Initialising c age) r is h = absurd (true_false false r refl)

    -- Row `f` of a run agrees with the mode of its frame.
    row_under : (f : ℕ) → f < course.frames → (m : CourseMode) → course_mode_at plan course f ≡ m → Ranged plan m → CourseRowUnder plan course f m
    row_under f inside m moded r = record {
      only = λ j h. let o = only_in acts (commits f) ph j i.1 is (rw (run.runs_is f j inside) at h) in (rw i.0 at o.0, sym (i.2 o.0) ∙ o.1);
      lost = λ running left up.
          let same = i.2 (i.0 ∙ running) in
          let l = lost_in acts (commits f) ph (i.0 ∙ running) is (rw (run.runs_is f (course_target m) inside, ← same) at left) in
          not_true (plan.is_runnable (course_target m) (course.env (suc f))) (λ later.
          elim (run.loses f l.1.proc.0 inside l.4) [
            | inl down ↦ true_false _ (built.needs_up (course_target m) l.0 l.1 (course.env f) l.2 (rw same at l.3) up) down
            | inr down ↦ true_false _ (built.needs_up (course_target m) l.0 l.1 (course.env (suc f)) l.2 (rw same at l.3) later) down
          ]);
      none_runs = λ none j. not_true (course.runs f j) (λ h.
          let o = only_in acts (commits f) ph j i.1 is (rw (run.runs_is f j inside) at h) in
          let known : j < plan.configurations = rw o.1 at i.1 in
          true_false _ h (least_none (course.runs f) 0 plan.configurations (sym (run.running_is f inside) ∙ none) j (omega arith) (omega arith)));
      one_runs = λ j some. least_holds (course.runs f) 0 plan.configurations j (sym (run.running_is f inside) ∙ some);
    }
      where
        ph : CoursePhase
        ph = course_phase plan m f

        acts : ℕ → CourseAct
        acts = course_acts_at plan build course commits f

        is : (a : ℕ) → acts a ≡ course_act_of (commits f) (course_order_in build ph a)
        is a = rw moded refl

        i : InPhase plan m f ph
        i = in_phase plan m f r

    pub flown : IsCourseFlown plan course
    flown f inside = row_under f inside (course_mode_at plan course f) refl (ranged f)

pub reconfigures_built : ReconfiguresBuilt
reconfigures_built plan build course commits accepted built within run = reconfigures plan course accepted within (flown plan course accepted build commits built run)
