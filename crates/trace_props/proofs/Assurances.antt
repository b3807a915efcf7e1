-- Each finished reconfiguration of a course satisfies `IsCourseAssured`, and an unfinished one satisfies
-- `IsCourseCutOff`, since the reading of rows agrees with the mode.
use Rattle.std.proofs.Common.{◌≡◌, ℕ, suc, ◌-◌, ◌<◌, ◌≤◌, refl, arith, subst}
use Rattle.std.specs.Prelude.{Option, Some, None}
use Rattle.trace_props.proofs.Plans.{Plan, IsAcceptedPlan}
use Rattle.trace_props.proofs.CourseModes.{CourseMode, CourseMode.Stable, CourseMode.Moving}
use Rattle.trace_props.proofs.Courses.{Course, IsCourseWithin, IsCourseFlown, CourseRowUnder, course_changes_upto, course_mode_at, CourseReading, CourseReading.Steady, CourseReading.Leaving, CourseReport, course_reading_before, course_arrival, course_report_of}
use Rattle.trace_props.proofs.Promises.{IsCourseAssured, IsCourseCutOff, IsCourseAllAssured, Reconfigures, course_first_moving, course_begin_of, course_further_changes, CentralFacts}
use Rattle.trace_props.proofs.Deadlines.{Deadlines, bound_of, in_bound}
use Rattle.trace_props.proofs.Coupling.{LeavingIn, Coupled, coupled}

module _ (plan : Plan) (course : Course) (accepted : IsAcceptedPlan plan) (within : IsCourseWithin plan course) where
  -- A reconfiguration that ends in row `f` satisfies `IsCourseAssured`.
  arrives : (f c s j : ℕ) (m : CourseMode) → f < course.frames → LeavingIn plan course f c s m → CourseRowUnder plan course f m → course.running f ≡ Some j
      → IsCourseAssured plan course (record { from = c; to = j; begin = s; end = f })
  arrives f c s j (Stable k) inside h row some = absurd h.moves
  arrives f c s j (Moving from halting to since) inside h row some =
      let d = h.moves.1 in
      let same = h.moves.0 in
      let target = (row.only j (row.one_runs j some)).1 in
      let b = bound_of plan course accepted within h.first f from halting to since (omega arith) d in
      let late = in_bound plan course accepted within h.first f from halting to since b.0 d b.2 in
      let begun = h.from_begin in let soon = h.by_next in
      let chosen : plan.choose c (course.env d.chosen_at) ≡ j = rw (← same, ← target) d.chosen in
      record {
        chosen_at = d.chosen_at;
        chosen_from = omega arith;
        chosen_to = d.chosen_to;
        chosen = chosen;
        bound = b.0;
        given = rw (← same, ← target) b.1;
        in_time = omega arith;
        cause = h.cause;
      }

  by_running : (f c s : ℕ) (m : CourseMode) (r : CourseReport) (o : Option ℕ) → course.running f ≡ o → f < course.frames → LeavingIn plan course f c s m → CourseRowUnder plan course f m → course_arrival c s f o ≡ Some r
      → IsCourseAssured plan course r
  by_running f c s m r None e inside h row is = cc
  by_running f c s m r (Some j) e inside h row is =
      let same : record { from = c; to = j; begin = s; end = f } ≡ r = cc in
      subst (λ x. IsCourseAssured plan course x) same (arrives f c s j m inside h row e)

  finished_of : (f : ℕ) (rd : CourseReading) (m : CourseMode) (r : CourseReport) → f < course.frames → Coupled plan course f rd m → CourseRowUnder plan course f m → course_report_of course f rd ≡ Some r → IsCourseAssured plan course r
  finished_of f (Steady c) m r inside h row is = cc
  finished_of f (Leaving c s) m r inside h row is = by_running f c s m r (course.running f) refl inside h row is

  cut_off_in : (c s : ℕ) (m : CourseMode) → LeavingIn plan course course.frames c s m → IsCourseCutOff plan course c s
  cut_off_in c s (Stable k) h = absurd h.moves
  cut_off_in c s (Moving from halting to since) h =
      let d = h.moves.1 in
      let same = h.moves.0 in
      let b = bound_of plan course accepted within h.first course.frames from halting to since (omega arith) d in
      let late = in_bound plan course accepted within h.first course.frames from halting to since b.0 d b.2 in
      let begun = h.from_begin in let soon = h.by_next in
      record { to = to; bound = b.0; given = rw (← same) b.1; in_time = omega arith; cause = h.cause }

  pub all_assured : IsCourseFlown plan course → IsCourseAllAssured plan course
  all_assured flown = record {
    finished = λ f r inside is. finished_of f (course_reading_before plan course f) (course_mode_at plan course f) r inside (coupled plan course accepted within flown f (omega arith)) (flown f inside) is;
    unfinished = λ c s is. cut_off_in c s (course_mode_at plan course course.frames) (subst (λ x. Coupled plan course course.frames x (course_mode_at plan course course.frames)) is (coupled plan course accepted within flown course.frames (omega arith)));
  }

  facts_of : (s first f from : ℕ) (halting : Option ℕ) (to since : ℕ) → first ≡ course_first_moving plan course s → first ≤ suc s → Deadlines plan course first f from halting to since → CentralFacts plan course s f from halting to since
  facts_of s first f from halting to since is soon d =
      let exact : course_changes_upto plan course.env f - course_changes_upto plan course.env first ≡ d.more = let c = d.counted in omega arith in
      let count : course_further_changes plan course s f ≡ d.more = rw (← is) exact in
      record {
        runnable = d.runnable;
        chosen_at = d.chosen_at;
        chosen_from = rw (← is) d.chosen_from;
        chosen_to = d.chosen_to;
        chosen = d.chosen;
        prompt = λ p. rw (d.fresh p) at d.chosen;
        halted = rw (count, ← is) d.halted;
        halted_by = rw count (let h = d.halted in omega arith);
        settled = d.settled;
        few = rw count d.few;
      }

  facts_in : (f : ℕ) (rd : CourseReading) (from : ℕ) (halting : Option ℕ) (to since : ℕ) → Coupled plan course f rd (Moving from halting to since) → course_mode_at plan course f ≡ Moving from halting to since → CentralFacts plan course (course_begin_of rd f) f from halting to since
  facts_in f (Steady c) from halting to since h moded = facts_of f f f from halting to since (rw moded refl) (omega arith) h.deadlines
  facts_in f (Leaving c s) from halting to since h moded = facts_of s h.first f from halting to since h.first_is h.by_next h.moves.1

  pub central_facts : IsCourseFlown plan course → (f from : ℕ) (halting : Option ℕ) (to since : ℕ) → f ≤ course.frames → course_mode_at plan course f ≡ Moving from halting to since
      → CentralFacts plan course (course_begin_of (course_reading_before plan course f) f) f from halting to since
  central_facts flown f from halting to since inside moded =
      facts_in f (course_reading_before plan course f) from halting to since (subst (λ m. Coupled plan course f (course_reading_before plan course f) m) moded (coupled plan course accepted within flown f inside)) moded

pub reconfigures : Reconfigures
reconfigures plan course accepted within flown = all_assured plan course accepted within flown
