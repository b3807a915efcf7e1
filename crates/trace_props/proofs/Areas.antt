-- Areas stay in the ranges of the acts that wrote them.
use Rattle.std.proofs.Common.{◌≡◌, ℕ, zero, suc, ◌+◌, ◌-◌, ◌<◌, ◌≤◌, Bool, true, false, refl, arith, ◌⊎◌, ap, sym, ◌∙◌, subst}
use mathlib.Core.Logic.{inl, inr}
use Rattle.std.specs.Prelude.{Option, Some, None, nat_lt}
use Rattle.trace_props.proofs.Plans.{Plan, IsAcceptedPlan, IsPlanTarget, plan_halting}
use Rattle.trace_props.proofs.CourseModes.{CourseMode, CourseMode.Stable, CourseMode.Moving}
use Rattle.trace_props.proofs.Courses.{Course, IsCourseWithin, IsCourseFlown, CourseRowUnder, course_mode_at, CourseReading, CourseReading.Steady, CourseReading.Leaving, CourseReport, course_read_row, course_reading_before, course_arrival, course_report_of}
use Rattle.scram_types.specs.declared.specification.Place.{Place}
use Rattle.scram_types.proofs.Booleans.{not_false, true_false}
use Rattle.scram_types.proofs.Naturals.{below, not_below, at_most, at_or_below}
use Rattle.trace_props.proofs.CourseRows.{CoursePhase, CoursePhase.Running, CoursePhase.Halting, CoursePhase.Preparing, CoursePhase.Initialising, CourseOrder.Hold, CourseOrder.Init, CourseAct, CourseAct.Ran, CourseAct.Halted, CourseAct.Held, CourseAct.Prepared, CourseAct.Initialised, CourseAct.WasOff, CourseAct.Lost, Build, course_after_halting, course_phase, course_running_order, course_halting_order, course_preparing_order, course_initialising_order, course_order_in, course_act_of, course_fits_place, course_acts_at, IsBuilt, IsRun}
use Rattle.trace_props.proofs.CourseAreas.{CourseArea, Written, Written.DidRun, Written.DidInit, Written.Zeros, written_after, opening_written, written_by, AreaLaws, IsAreaFilled, AreAreasFilled, CourseInvariant, CoursePrecondition, SpeaksOfSource, IsPlacedInTarget, IsPlacedInEither, IsListed, HoldsListedRanges, HoldsInitialisedRange, AreasKept, KeepsAreas}
use Rattle.trace_props.proofs.Tests.{by_test}
use Rattle.trace_props.proofs.Deadlines.{Deadlines}
use Rattle.trace_props.proofs.Coupling.{LeavingIn, Coupled, coupled, by_arrival}
use Rattle.trace_props.proofs.Builds.{all_at, place_same, flown}

-- If an area lies in the ranges of its last writer, and an act fills the area, then the new area lies in the ranges
-- of the writer after the act.
lies_after : (laws : AreaLaws) (a : ℕ) (act : CourseAct) (w : Written) (old new : CourseArea) → laws.lies a w old ≡ true → IsAreaFilled laws a act old new → laws.lies a (written_after act w) new ≡ true
lies_after laws a (Ran p) w old new h filled = filled
lies_after laws a (Halted k n p) w old new h filled = filled
lies_after laws a Held w old new h filled = rw filled h
lies_after laws a (Prepared k n p) w old new h filled = filled
lies_after laws a (Initialised k n p) w old new h filled = filled.0
lies_after laws a WasOff w old new h filled = filled
lies_after laws a Lost w old new h filled = rw filled h

-- The area of an application with a place was written by a run or an initialisation at that place. The area of an
-- application without a place was cleared.
abbrev pub OwnAt : Option Place → Written → Type 0
OwnAt None w = w ≡ Zeros
OwnAt (Some p) w = (w ≡ DidRun p) ⊎ (w ≡ DidInit p)

own_opening : (o : Option Place) → OwnAt o (opening_written o)
own_opening None = refl
own_opening (Some p) = inr refl

-- If an act fits an optional place, then the area after the act was written there, or cleared if there is no place.
own_after : (o : Option Place) (act : CourseAct) (w : Written) → course_fits_place o act ≡ true → OwnAt o (written_after act w)
own_after None (Ran q) w h = absurd (true_false false h refl)
own_after None (Halted k n q) w h = absurd (true_false false h refl)
own_after None Held w h = absurd (true_false false h refl)
own_after None (Prepared k n q) w h = absurd (true_false false h refl)
own_after None (Initialised k n q) w h = absurd (true_false false h refl)
own_after None WasOff w h = refl
own_after None Lost w h = absurd (true_false false h refl)
own_after (Some p) (Ran q) w h = inl (ap DidRun (place_same q p h))
own_after (Some p) (Halted k n q) w h = absurd (true_false false h refl)
own_after (Some p) Held w h = absurd (true_false false h refl)
own_after (Some p) (Prepared k n q) w h = absurd (true_false false h refl)
own_after (Some p) (Initialised k n q) w h = absurd (true_false false h refl)
own_after (Some p) WasOff w h = absurd (true_false false h refl)
own_after (Some p) Lost w h = absurd (true_false false h refl)

own_listed : (plan : Plan) (build : Build) (i a : ℕ) (w : Written) (o : Option Place) → build.place i a ≡ o → OwnAt o w → IsListed plan build i a w
own_listed plan build i a w None e own = rw own (inl e)
own_listed plan build i a w (Some p) e own = elim own [ inl k ↦ rw k (inl e) | inr k ↦ rw k (inl e) ]

-- Each configuration of the phase is `i` or a target of `i`, and a phase that prepares or initialises is for a target
-- of `i`.
abbrev pub FromIn : Plan → ℕ → CoursePhase → Type 0
FromIn plan i (Running c) = (c ≡ i) ⊎ IsPlanTarget plan i c
FromIn plan i (Halting c age) = (c ≡ i) ⊎ IsPlanTarget plan i c
FromIn plan i (Preparing c age) = IsPlanTarget plan i c
FromIn plan i (Initialising c age) = IsPlanTarget plan i c

sited : (plan : Plan) (build : Build) (i c a : ℕ) (o : Option Place) → (c ≡ i) ⊎ IsPlanTarget plan i c → build.place c a ≡ o → IsPlacedInEither plan build i a o
sited plan build i c a o from e = elim from [ inl k ↦ inl (rw k at e) | inr t ↦ inr (c, t, e) ]

listed_running : (plan : Plan) (build : Build) (committed : ℕ → Bool) (i a : ℕ) (w : Written) (o : Option Place) → IsListed plan build i a w → IsPlacedInEither plan build i a o → IsListed plan build i a (written_after (course_act_of committed (course_running_order o)) w)
listed_running plan build committed i a w None h site = site
listed_running plan build committed i a w (Some p) h site = by_test (λ x. IsListed plan build i a (written_after x w)) (committed p.proc.0) _ _ (λ e. site) (λ e. h)

listed_halting : (plan : Plan) (build : Build) (committed : ℕ → Bool) (offset time age i a : ℕ) (w : Written) (o : Option Place) → IsListed plan build i a w → IsPlacedInEither plan build i a o → IsListed plan build i a (written_after (course_act_of committed (course_halting_order offset time age o)) w)
listed_halting plan build committed offset time age i a w None h site = site
listed_halting plan build committed offset time age i a w (Some p) h site =
    by_test (λ x. IsListed plan build i a (written_after (course_act_of committed x) w)) (nat_lt age offset) _ _
    (λ e. by_test (λ x. IsListed plan build i a (written_after x w)) (committed p.proc.0) _ _ (λ e. site) (λ e. h))
    (λ e. by_test (λ x. IsListed plan build i a (written_after (course_act_of committed x) w)) (nat_lt (age - offset) time) _ _
    (λ e. by_test (λ x. IsListed plan build i a (written_after x w)) (committed p.proc.0) _ _ (λ e. site) (λ e. h))
    (λ e. by_test (λ x. IsListed plan build i a (written_after x w)) (committed p.proc.0) _ _ (λ e. h) (λ e. h)))

listed_preparing : (plan : Plan) (build : Build) (committed : ℕ → Bool) (time age i a : ℕ) (w : Written) (o : Option Place) → IsListed plan build i a w → IsPlacedInTarget plan build i a o → IsListed plan build i a (written_after (course_act_of committed (course_preparing_order time age o)) w)
listed_preparing plan build committed time age i a w None h site = inr site
listed_preparing plan build committed time age i a w (Some p) h site =
    by_test (λ x. IsListed plan build i a (written_after (course_act_of committed x) w)) (nat_lt age time) _ _
    (λ e. by_test (λ x. IsListed plan build i a (written_after x w)) (committed p.proc.0) _ _ (λ e. site) (λ e. h))
    (λ e. by_test (λ x. IsListed plan build i a (written_after x w)) (committed p.proc.0) _ _ (λ e. h) (λ e. h))

listed_init : (plan : Plan) (build : Build) (committed : ℕ → Bool) (offset time age i a : ℕ) (w : Written) (o : Option Place) → IsListed plan build i a w → IsPlacedInTarget plan build i a o → IsListed plan build i a (written_after (course_act_of committed (course_initialising_order offset time age o)) w)
listed_init plan build committed offset time age i a w None h site = inr site
listed_init plan build committed offset time age i a w (Some p) h site =
    by_test (λ x. IsListed plan build i a (written_after (course_act_of committed x) w)) (nat_lt age offset) _ _
    (λ e. by_test (λ x. IsListed plan build i a (written_after x w)) (committed p.proc.0) _ _ (λ e. h) (λ e. h))
    (λ e. by_test (λ x. IsListed plan build i a (written_after (course_act_of committed x) w)) (nat_lt (age - offset) time) _ _
    (λ e. by_test (λ x. IsListed plan build i a (written_after x w)) (committed p.proc.0) _ _ (λ e. inr site) (λ e. h))
    (λ e. by_test (λ x. IsListed plan build i a (written_after x w)) (committed p.proc.0) _ _ (λ e. h) (λ e. h)))

listed_in : (plan : Plan) (build : Build) (committed : ℕ → Bool) (i a : ℕ) (w : Written) (ph : CoursePhase) → FromIn plan i ph → IsListed plan build i a w → IsListed plan build i a (written_after (course_act_of committed (course_order_in build ph a)) w)
listed_in plan build committed i a w (Running c) from h = listed_running plan build committed i a w (build.place c a) h (sited plan build i c a (build.place c a) from refl)
listed_in plan build committed i a w (Halting c age) from h = listed_halting plan build committed (build.halt_offset c a) (build.halt_time c a) age i a w (build.place c a) h (sited plan build i c a (build.place c a) from refl)
listed_in plan build committed i a w (Preparing c age) from h = listed_preparing plan build committed (build.prepare_time c a) age i a w (build.place c a) h (c, from, refl)
listed_in plan build committed i a w (Initialising c age) from h = listed_init plan build committed (build.init_offset c a) (build.init_time c a) age i a w (build.place c a) h (c, from, refl)

abbrev pub source_of : CourseReading → ℕ
source_of (Steady c) = c
source_of (Leaving c s) = c

-- Frame `s` is before frame `e`, and the source of the reading is `c` in each frame from `s` to `e`.
pub record SinceLeft (plan : Plan) (course : Course) (e c s : ℕ) : Type 0 where
  pub before : s < e
  pub sources : (g : ℕ) → s ≤ g → g ≤ e → source_of (course_reading_before plan course g) ≡ c

left_more : (plan : Plan) (course : Course) (e c s : ℕ) → course_reading_before plan course (suc e) ≡ Leaving c s → SinceLeft plan course e c s → SinceLeft plan course (suc e) c s
left_more plan course e c s is h = record {
  before = let b = h.before in omega arith;
  sources = λ g from to. elim (at_or_below g e to) [ inl k ↦ h.sources g from k | inr k ↦ rw (k, is) refl ];
}

left_first : (plan : Plan) (course : Course) (e c : ℕ) → course_reading_before plan course (suc e) ≡ Leaving c e → source_of (course_reading_before plan course e) ≡ c → SinceLeft plan course (suc e) c e
left_first plan course e c is was = record {
  before = omega arith;
  sources = λ g from to. elim (at_or_below g e to) [ inl k ↦ (let same : g ≡ e = omega arith in rw same was) | inr k ↦ rw (k, is) refl ];
}

left_step : (plan : Plan) (course : Course) (e c s : ℕ) (rd : CourseReading) → course_reading_before plan course e ≡ rd → course_reading_before plan course (suc e) ≡ Leaving c s → course_read_row course e rd ≡ Leaving c s → (course_reading_before plan course e ≡ Leaving c s → SinceLeft plan course e c s) → SinceLeft plan course (suc e) c s
left_step plan course e c s (Steady k) was is row before =
    by_test (λ x. x ≡ Leaving c s → SinceLeft plan course (suc e) c s) (course.runs e k) (Steady k) (Leaving k e)
    (λ ran h. cc)
    (λ left h. let a : k ≡ c = cc in let b : e ≡ s = cc in
    subst (λ t. SinceLeft plan course (suc e) c t) b (left_first plan course e c (rw (← b) at is) (rw was a))) row
left_step plan course e c s (Leaving k t) was is row before =
    by_arrival (λ x. x ≡ Leaving c s → SinceLeft plan course (suc e) c s) k t (course.running e)
    (λ none h. left_more plan course e c s is (before (was ∙ h)))
    (λ j some h. cc) row

pub since_left : (plan : Plan) (course : Course) (e c s : ℕ) → course_reading_before plan course e ≡ Leaving c s → SinceLeft plan course e c s
since_left plan course zero c s is = cc
since_left plan course (suc e) c s is = left_step plan course e c s (course_reading_before plan course e) refl is is (since_left plan course e c s)

module _ (plan : Plan) (build : Build) (course : Course) (commits : ℕ → ℕ → Bool) (laws : AreaLaws) (area : ℕ → ℕ → CourseArea)
    (accepted : IsAcceptedPlan plan) (built : IsBuilt plan build) (within : IsCourseWithin plan course) (run : IsRun plan build course commits) (filled : AreAreasFilled plan build course commits laws area) where
  abbrev acts : ℕ → ℕ → CourseAct
  acts f a = course_acts_at plan build course commits f a

  abbrev written : ℕ → ℕ → Written
  written f a = written_by (λ g. course_acts_at plan build course commits g a) (opening_written (build.place plan.start a)) f

  lies_at : (f a : ℕ) → f ≤ course.frames → a < build.apps → laws.lies a (written f a) (area f a) ≡ true
  lies_at zero a inside known = filled.opens a known
  lies_at (suc f) a inside known = lies_after laws a (acts f a) (written f a) (area f a) (area (suc f) a) (lies_at f a (omega arith) known) (filled.writes f a inside known)

  abbrev WrittenAs : ℕ → CourseReading → Type 0
  WrittenAs f (Steady c) = (a : ℕ) → a < build.apps → OwnAt (build.place c a) (written f a)
  WrittenAs f (Leaving c s) = (a : ℕ) → a < build.apps → IsListed plan build c a (written f a)

  target_from : (first f from : ℕ) (halting : Option ℕ) (to since : ℕ) → f ≤ course.frames → Deadlines plan course first f from halting to since → IsPlanTarget plan from to
  target_from first f from halting to since inside d = record { seen = course.env d.chosen_at; scope = within.scope d.chosen_at (omega arith); chosen = d.chosen }

  from_after : (from to age : ℕ) → IsPlanTarget plan from to → FromIn plan from (course_after_halting plan to age)
  from_after from to age t =
      by_test (FromIn plan from) (nat_lt age (plan.preparing to)) _ _ (λ e. t)
      (λ e. by_test (FromIn plan from) (nat_lt (age - plan.preparing to) (plan.initialising to)) _ _ (λ e. t) (λ e. inr t))

  phase_from : (first f from : ℕ) (halting : Option ℕ) (to since : ℕ) → f ≤ course.frames → Deadlines plan course first f from halting to since → FromIn plan from (course_phase plan (Moving from halting to since) f)
  phase_from first f from None to since inside d = from_after from to (f - since) (target_from first f from None to since inside d)
  phase_from first f from (Some h) to since inside d =
      by_test (FromIn plan from) (nat_lt (f - since) (plan.halting h)) _ _ (λ e. (d.halts h refl).1)
      (λ e. from_after from to (f - since - plan.halting h) (target_from first f from (Some h) to since inside d))

  from_in : (f : ℕ) (rd : CourseReading) (m : CourseMode) → f ≤ course.frames → Coupled plan course f rd m → FromIn plan (source_of rd) (course_phase plan m f)
  from_in f (Steady c) (Stable k) inside h = inl h.0
  from_in f (Steady c) (Moving from halting to since) inside h = subst (λ x. FromIn plan x (course_phase plan (Moving from halting to since) f)) h.same (phase_from f f from halting to since inside h.deadlines)
  from_in f (Leaving c s) (Stable k) inside h = absurd h.moves
  from_in f (Leaving c s) (Moving from halting to since) inside h = subst (λ x. FromIn plan x (course_phase plan (Moving from halting to since) f)) h.moves.0 (phase_from h.first f from halting to since inside h.moves.1)

  known_in : (f : ℕ) (rd : CourseReading) (m : CourseMode) → Coupled plan course f rd m → source_of rd < plan.configurations
  known_in f (Steady c) (Stable k) h = h.2
  known_in f (Steady c) (Moving from halting to since) h = rw h.same at h.deadlines.from_in
  known_in f (Leaving c s) (Stable k) h = absurd h.moves
  known_in f (Leaving c s) (Moving from halting to since) h = rw h.moves.0 at h.moves.1.from_in

  -- The writer of each area is listed for the reading's source.
  listed_before : (f : ℕ) (rd : CourseReading) → WrittenAs f rd → (a : ℕ) → a < build.apps → IsListed plan build (source_of rd) a (written f a)
  listed_before f (Steady c) h a known = own_listed plan build c a (written f a) (build.place c a) refl (h a known)
  listed_before f (Leaving c s) h a known = h a known

  row_listed : (f : ℕ) (rd : CourseReading) (m : CourseMode) → f ≤ course.frames → Coupled plan course f rd m → course_mode_at plan course f ≡ m → WrittenAs f rd → (a : ℕ) → a < build.apps → IsListed plan build (source_of rd) a (written (suc f) a)
  row_listed f rd m inside h moded was a known =
      listed_in plan build (commits f) (source_of rd) a (written f a) (course_phase plan (course_mode_at plan course f) f) (rw moded (from_in f rd m inside h)) (listed_before f rd was a known)

  row_owned : (f j : ℕ) → f < course.frames → course.runs f j ≡ true → (a : ℕ) → a < build.apps → OwnAt (build.place j a) (written (suc f) a)
  row_owned f j inside ran a known =
      own_after (build.place j a) (acts f a) (written f a) (all_at (λ a. course_fits_place (build.place j a) (course_acts_at plan build course commits f a)) build.apps (rw (run.runs_is f j inside) at ran) a known)

  written_step : (f : ℕ) (rd : CourseReading) (m : CourseMode) → f < course.frames → Coupled plan course f rd m → CourseRowUnder plan course f m → course_mode_at plan course f ≡ m → WrittenAs f rd → WrittenAs (suc f) (course_read_row course f rd)
  written_step f (Steady c) m inside h row moded was =
      by_test (WrittenAs (suc f)) (course.runs f c) (Steady c) (Leaving c f)
      (λ ran. row_owned f c inside ran) (λ left. row_listed f (Steady c) m (omega arith) h moded was)
  written_step f (Leaving c s) m inside h row moded was =
      by_arrival (WrittenAs (suc f)) c s (course.running f)
      (λ none. row_listed f (Leaving c s) m (omega arith) h moded was) (λ j some. row_owned f j inside (row.one_runs j some))

  is_flown : IsCourseFlown plan course
  is_flown = flown plan course accepted build commits built run

  written_as : (f : ℕ) → f ≤ course.frames → WrittenAs f (course_reading_before plan course f)
  written_as zero inside = λ a known. own_opening (build.place plan.start a)
  written_as (suc f) inside = written_step f (course_reading_before plan course f) (course_mode_at plan course f) inside (coupled plan course accepted within is_flown f (omega arith)) (is_flown f inside) refl (written_as f (omega arith))

  -- If the reading before row `e` is `Leaving c s`, then an invariant for `c` holds after each row from `s` to `e`.
  kept_in_row : (e c s : ℕ) (inv : CourseInvariant) (g : ℕ) → e ≤ course.frames → course_reading_before plan course e ≡ Leaving c s → HoldsListedRanges plan build laws inv → SpeaksOfSource inv.source c → s ≤ g → g ≤ e → g < course.frames → inv.holds (area (suc g) inv.app) ≡ true
  kept_in_row e c s inv g inside is kept speaks from to row =
      let same = (since_left plan course e c s is).sources g from to in
      let h = coupled plan course accepted within is_flown g (omega arith) in
      let listed = rw same at (row_listed g (course_reading_before plan course g) (course_mode_at plan course g) (omega arith) h refl (written_as g (omega arith)) inv.app kept.app_in) in
      kept.holds_listed c (written (suc g) inv.app) (area (suc g) inv.app) (rw same at (known_in g (course_reading_before plan course g) (course_mode_at plan course g) h)) speaks listed (lies_at (suc g) inv.app row kept.app_in)

  -- The phase that is `preparing + k` frames after the halting phase is frame `k` of the initialisation.
  in_init_after : (to late k : ℕ) → late ≡ plan.preparing to + k → k < plan.initialising to → course_after_halting plan to late ≡ Initialising to k
  in_init_after to late k is inside =
      by_test (λ x. x ≡ Initialising to k) (nat_lt late (plan.preparing to)) _ _ (λ e. let h = below late (plan.preparing to) e in absurd (omega arith))
      (λ e. by_test (λ x. x ≡ Initialising to k) (nat_lt (late - plan.preparing to) (plan.initialising to)) _ _
      (λ e. let same : late - plan.preparing to ≡ k = omega arith in ap (Initialising to) same)
      (λ e. let h = not_below (late - plan.preparing to) (plan.initialising to) e in absurd (omega arith)))

  in_init : (from : ℕ) (halting : Option ℕ) (to since g k : ℕ) → g ≡ since + plan_halting plan halting + plan.preparing to + k → k < plan.initialising to → course_phase plan (Moving from halting to since) g ≡ Initialising to k
  in_init from None to since g k is inside = in_init_after to (g - since) k (omega arith) inside
  in_init from (Some h) to since g k is inside =
      by_test (λ x. x ≡ Initialising to k) (nat_lt (g - since) (plan.halting h)) _ _ (λ e. let h = below (g - since) (plan.halting h) e in absurd (omega arith))
      (λ e. in_init_after to (g - since - plan.halting h) k (omega arith) inside)

  init_last : (offset n k : ℕ) (p : Place) → suc k ≡ offset + n → 1 ≤ n → course_initialising_order offset n k (Some p) ≡ Init (k - offset) n p
  init_last offset n k p is some =
      by_test (λ x. x ≡ Init (k - offset) n p) (nat_lt k offset) _ _ (λ e. let h = below k offset e in absurd (omega arith))
      (λ e. by_test (λ x. x ≡ Init (k - offset) n p) (nat_lt (k - offset) n) _ _ (λ e. refl) (λ e. let h = not_below (k - offset) n e in absurd (omega arith)))

  init_over : (offset n k : ℕ) (p : Place) → offset + n ≤ k → course_initialising_order offset n k (Some p) ≡ Hold p
  init_over offset n k p over =
      by_test (λ x. x ≡ Hold p) (nat_lt k offset) _ _ (λ e. refl)
      (λ e. by_test (λ x. x ≡ Hold p) (nat_lt (k - offset) n) _ _ (λ e. let h = below (k - offset) n e in absurd (omega arith)) (λ e. refl))

  module _ (first f from : ℕ) (halting : Option ℕ) (to since : ℕ) (inside : f ≤ course.frames) (d : Deadlines plan course first f from halting to since) where
    -- In frame `k` of the initialisation each act carries out the application's order for that frame.
    act_in_init : (g k a : ℕ) → g ≡ since + plan_halting plan halting + plan.preparing to + k → k < plan.initialising to → g < f → acts g a ≡ course_act_of (commits g) (course_initialising_order (build.init_offset to a) (build.init_time to a) k (build.place to a))
    act_in_init g k a is below early =
        let w = d.whole g (omega arith) early in
        rw (w.moded, in_init from halting to since g k is below) refl

    committed : (g a : ℕ) (p : Place) → since + plan_halting plan halting ≤ g → g < f → a < build.apps → build.place to a ≡ Some p → commits g p.proc.0 ≡ true
    committed g a p late early known on =
        let w = d.whole g late early in
        not_false (commits g p.proc.0) (λ lost. elim (run.loses g p.proc.0 (omega arith) lost) [
          | inl down ↦ true_false _ (built.needs_up to a p (course.env g) known on w.before) down
          | inr down ↦ true_false _ (built.needs_up to a p (course.env (suc g)) known on w.behind) down
        ])

    ready_step : (g k a : ℕ) (p : Place) → g ≡ since + plan_halting plan halting + plan.preparing to + k → k < plan.initialising to → g < f → a < build.apps → build.place to a ≡ Some p
        → build.init_offset to a + build.init_time to a ≤ suc k → 1 ≤ build.init_time to a
        → (build.init_offset to a + build.init_time to a ≤ k → laws.initialised a p (area g a) ≡ true) → laws.initialised a p (area (suc g) a) ≡ true
    ready_step g k a p is below early known on over some before =
        let act = act_in_init g k a is below early in
        let there = committed g a p (omega arith) early known on in
        let writes = filled.writes g a (omega arith) known in
        elim (at_or_below (build.init_offset to a + build.init_time to a) k over) [
          | inl h ↦
              let held : acts g a ≡ Held = act ∙ (rw (on, init_over (build.init_offset to a) (build.init_time to a) k p h, there) refl) in
              let same : area (suc g) a ≡ area g a = rw held at writes in
              rw same (before h)
          | inr h ↦
              let did : acts g a ≡ Initialised (k - build.init_offset to a) (build.init_time to a) p = act ∙ (rw (on, init_last (build.init_offset to a) (build.init_time to a) k p (sym h) some, there) refl) in
              let wrote = rw did at writes in
              wrote.1 (omega arith)
        ]

    ready_on : (k g a : ℕ) (p : Place) → g ≡ since + plan_halting plan halting + plan.preparing to + k → k ≤ plan.initialising to → g ≤ f → a < build.apps → build.place to a ≡ Some p
        → build.init_offset to a + build.init_time to a ≤ k → 1 ≤ build.init_time to a → laws.initialised a p (area g a) ≡ true
    ready_on zero g a p is below early known on over some = absurd (omega arith)
    ready_on (suc k) g a p is below early known on over some =
        let was = since + plan_halting plan halting + plan.preparing to + k in
        let next : g ≡ suc was = omega arith in
        rw next (ready_step was k a p refl (omega arith) (omega arith) known on over some (λ h. ready_on k was a p refl (omega arith) (omega arith) known on h some))

    ready_off : (g k a : ℕ) → g ≡ since + plan_halting plan halting + plan.preparing to + k → suc k ≡ plan.initialising to → suc g ≡ f → a < build.apps → build.place to a ≡ None → laws.lies a Zeros (area f a) ≡ true
    ready_off g k a is last next known off =
        let act = act_in_init g k a is (omega arith) (omega arith) in
        let was : acts g a ≡ WasOff = act ∙ (rw off refl) in
        rw next at (rw was at (filled.writes g a (omega arith) known))

-- Report `r` is the report of a reconfiguration that ends in row `f`. Before row `f`, the reading is `Leaving` with
-- the source and the begin of `r`. Row `f` runs the target of `r`.
pub record Reported (course : Course) (f : ℕ) (rd : CourseReading) (r : CourseReport) : Type 0 where
  pub reading : rd ≡ Leaving r.from r.begin
  pub row : course.running f ≡ Some r.to
  pub end : r.end ≡ f

reported_by : (course : Course) (f c s : ℕ) (o : Option ℕ) (r : CourseReport) → course.running f ≡ o → course_arrival c s f o ≡ Some r → Reported course f (Leaving c s) r
reported_by course f c s None r e is = cc
reported_by course f c s (Some j) r e is =
    let same : record { from = c; to = j; begin = s; end = f } ≡ r = cc in
    subst (λ x. Reported course f (Leaving c s) x) same (record { reading = refl; row = e; end = refl })

pub reported_of : (course : Course) (f : ℕ) (rd : CourseReading) (r : CourseReport) → course_report_of course f rd ≡ Some r → Reported course f rd r
reported_of course f (Steady c) r is = cc
reported_of course f (Leaving c s) r is = reported_by course f c s (course.running f) r refl is

module _ (plan : Plan) (build : Build) (course : Course) (commits : ℕ → ℕ → Bool) (laws : AreaLaws) (area : ℕ → ℕ → CourseArea)
    (accepted : IsAcceptedPlan plan) (built : IsBuilt plan build) (within : IsCourseWithin plan course) (run : IsRun plan build course commits) (filled : AreAreasFilled plan build course commits laws area) where
  ready_by : (first f from : ℕ) (halting : Option ℕ) (to since : ℕ) (pre : CoursePrecondition) (o : Option Place) → f ≤ course.frames → Deadlines plan course first f from halting to since
      → f ≡ since + plan_halting plan halting + plan.preparing to + plan.initialising to → HoldsInitialisedRange build laws pre → pre.conf ≡ to → build.place to pre.app ≡ o → pre.holds (area f pre.app) ≡ true
  ready_by first f from halting to since pre None inside d is ready same on =
      let some = accepted.lasts to d.to_in in
      ready.holds_off (area f pre.app) (rw same on)
      (ready_off plan build course commits laws area accepted built within run filled first f from halting to since inside d (f - 1) (plan.initialising to - 1) pre.app (omega arith) (omega arith) (omega arith) ready.app_in on)
  ready_by first f from halting to since pre (Some p) inside d is ready same on =
      let times = built.inits to pre.app p ready.app_in on in
      ready.holds_on p (area f pre.app) (rw same on)
      (ready_on plan build course commits laws area accepted built within run filled first f from halting to since inside d (plan.initialising to) f pre.app p is (omega arith) (omega arith) ready.app_in on times.1 times.0)

  ready_in : (f c s j : ℕ) (m : CourseMode) (pre : CoursePrecondition) → f < course.frames → LeavingIn plan course f c s m → CourseRowUnder plan course f m → course.running f ≡ Some j → HoldsInitialisedRange build laws pre → pre.conf ≡ j → pre.holds (area f pre.app) ≡ true
  ready_in f c s j (Stable k) pre inside h row some ready same = absurd h.moves
  ready_in f c s j (Moving from halting to since) pre inside h row some ready same =
      let d = h.moves.1 in
      let o = row.only j (row.one_runs j some) in
      let settled = at_most (plan_halting plan halting + plan.preparing to + plan.initialising to) (f - since) o.0 in
      let soon = d.settled in let now = d.now in
      ready_by h.first f from halting to since pre (build.place to pre.app) (omega arith) d (omega arith) ready (same ∙ sym o.1) refl

  pub areas_kept : AreasKept plan build course laws area
  areas_kept = record {
    throughout = λ f r inv g inside is kept speaks from to.
        let t = reported_of course f (course_reading_before plan course f) r is in
        let end = t.end in
        kept_in_row plan build course commits laws area accepted built within run filled f r.from r.begin inv g (omega arith) t.reading kept speaks from (omega arith) (omega arith);
    cut_off = λ c s inv g is kept speaks from row.
        kept_in_row plan build course commits laws area accepted built within run filled course.frames c s inv g (omega arith) is kept speaks from (omega arith) row;
    ready = λ f r pre inside is ready same.
        let t = reported_of course f (course_reading_before plan course f) r is in
        let flown = is_flown plan build course commits laws area accepted built within run filled in
        rw t.end (ready_in f r.from r.begin r.to (course_mode_at plan course f) pre inside
        (subst (λ x. Coupled plan course f x (course_mode_at plan course f)) t.reading (coupled plan course accepted within flown f (omega arith)))
        (flown f inside) t.row ready same);
  }

pub keeps_areas : KeepsAreas
keeps_areas plan build course commits laws area accepted built within run filled = areas_kept plan build course commits laws area accepted built within run filled
