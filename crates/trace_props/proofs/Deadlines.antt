-- The deadlines of a reconfiguration, from its first moving frame on.
use Rattle.std.proofs.Common.{◌≡◌, ℕ, suc, ◌+◌, ◌-◌, ◌*◌, ◌<◌, ◌≤◌, Bool, true, false, refl, arith, ◌⊎◌, ◌≢◌, sym, ◌∙◌}
use mathlib.Core.Logic.{inl, inr}
use Rattle.std.specs.Prelude.{Option, Some, if◌then◌else◌, ◌&&◌}
use Rattle.scram_types.specs.declared.rows.Env.{Env}
use Rattle.scram_types.proofs.Booleans.{not_false}
use Rattle.scram_types.proofs.Naturals.{below_or_at}
use Rattle.trace_props.proofs.Plans.{Plan, IsAcceptedPlan, IsPlanTarget, plan_further, plan_halting, plan_least_bound}
use Rattle.trace_props.proofs.CourseModes.{CourseMode.Moving, course_wanted}
use Rattle.trace_props.proofs.Courses.{Course, IsCourseWithin, course_changes_at, course_changes_upto, course_mode_at}
use Rattle.trace_props.proofs.Counting.{count_changed, count_grows, count_le}

-- Frame `g` has the mode `Moving from halting to since`. The processors that the target uses are up in frame `g` and
-- in the next frame.
pub record IsWhole (plan : Plan) (course : Course) (g from : ℕ) (halting : Option ℕ) (to since : ℕ) : Type 0 where
  pub moded : course_mode_at plan course g ≡ Moving from halting to since
  pub before : plan.is_runnable to (course.env g) ≡ true
  pub behind : plan.is_runnable to (course.env (suc g)) ≡ true

-- Frame `f` has the mode `Moving from halting to since`, its reconfiguration has the first moving frame `first`, and
-- the frame is within the deadlines of the reconfiguration. The target can run, and was chosen from the source in
-- frame `first` or later.
pub record Deadlines (plan : Plan) (course : Course) (first f from : ℕ) (halting : Option ℕ) (to since : ℕ) : Type 0 where
  pub from_in : from < plan.configurations
  pub to_in : to < plan.configurations
  pub halts : (h : ℕ) → halting ≡ Some h → (h < plan.configurations) × ((h ≡ from) ⊎ IsPlanTarget plan from h)
  pub whole : (g : ℕ) → since + plan_halting plan halting ≤ g → g < f → IsWhole plan course g from halting to since
  pub begun : first ≤ since
  pub now : since ≤ f
  pub runnable : plan.is_runnable to (course.env f) ≡ true
  pub chosen_at : ℕ
  pub chosen_from : first ≤ chosen_at
  pub chosen_to : chosen_at ≤ f
  pub chosen : plan.choose from (course.env chosen_at) ≡ to
  pub fresh : plan.settles ≡ false → chosen_at ≡ f
  pub more : ℕ
  pub counted : course_changes_upto plan course.env f ≡ course_changes_upto plan course.env first + more
  pub halted : since + plan_halting plan halting ≤ first + plan.halting from + more * plan.slowest
  pub settled : f ≤ since + plan_halting plan halting + plan.preparing to + plan.initialising to
  pub few : more ≤ plan_further plan
  pub away : (to ≢ from) ⊎ (1 ≤ plan_further plan)
  pub room : (g : ℕ) → g ≤ course.frames → g < first + plan.window → course_changes_upto plan course.env g ≤ course_changes_upto plan course.env first + plan_further plan

scaled : (a b q : ℕ) → a ≤ b → a * q ≤ b * q
scaled a b q h = grind arith

-- The arithmetic of a step: frame `f + 1` is within the bound `t` that counts from frame `first`.
pub in_time : (f first since halted h q x d p i t : ℕ) → f ≤ since + halted + p + i → since + halted ≤ first + h + d * q → d ≤ x → 1 + h + x * q + p + i ≤ t → suc f ≤ first + t
in_time f first since halted h q x d p i t a b c e = let m : d * q ≤ x * q = grind arith in omega arith

pub later : (f first since halted h q d p i k : ℕ) → f ≤ since + halted + p + i → since + halted ≤ first + h + d * q → p + i + 1 + k ≤ q → suc f + k ≤ first + h + suc d * q
later f first since halted h q d p i k a b c = omega arith

-- The policy either keeps the target or chooses it anew.
wanted_by : (a b : Bool) (to t : ℕ) → ((a ≡ true) × (b ≡ true) × ((if (a && b) then to else t) ≡ to)) ⊎ (((a ≡ false) ⊎ (b ≡ false)) × ((if (a && b) then to else t) ≡ t))
wanted_by true true to t = inl (refl, refl, refl)
wanted_by true false to t = inr (inr refl, refl)
wanted_by false b to t = inr (inl refl, refl)

pub wanted_cases : (plan : Plan) (from to : ℕ) (v : Env) → ((plan.settles ≡ true) × (plan.is_runnable to v ≡ true) × (course_wanted plan from to v ≡ to)) ⊎ (((plan.settles ≡ false) ⊎ (plan.is_runnable to v ≡ false)) × (course_wanted plan from to v ≡ plan.choose from v))
wanted_cases plan from to v = wanted_by plan.settles (plan.is_runnable to v) to (plan.choose from v)

further_by : (b : Bool) (n : ℕ) → ((b ≡ true) × ((if b then suc n else n) ≡ suc n)) ⊎ ((b ≡ false) × ((if b then suc n else n) ≡ n))
further_by true n = inl (refl, refl)
further_by false n = inr (refl, refl)

pub further_cases : (plan : Plan) → ((plan.settles ≡ true) × (plan_further plan ≡ suc plan.changes)) ⊎ ((plan.settles ≡ false) × (plan_further plan ≡ plan.changes))
further_cases plan = further_by plan.settles plan.changes

pub record NextCount (plan : Plan) (course : Course) (first f more : ℕ) : Type 0 where
  pub next : ℕ
  pub counted : course_changes_upto plan course.env (suc f) ≡ course_changes_upto plan course.env first + next
  pub few : next ≤ plan_further plan
  pub grown : more ≤ next
  pub changed : course_changes_at plan course.env (suc f) ≡ true → suc more ≤ next

module _ (plan : Plan) (course : Course) (accepted : IsAcceptedPlan plan) (within : IsCourseWithin plan course) where
  count : ℕ → ℕ
  count f = course_changes_upto plan course.env f

  -- A window that begins with a change frame contains at most `plan.changes` further change frames.
  pub room_at_change : (p g : ℕ) → course_changes_at plan course.env (suc p) ≡ true → g ≤ course.frames → g < suc p + plan.window → course_changes_upto plan course.env g ≤ course_changes_upto plan course.env (suc p) + plan.changes
  room_at_change p g changed inside near =
      let few = within.few g inside in
      let below = count_le plan course.env (g - plan.window) p (omega arith) in
      let one = count_changed plan course.env p changed in
      omega arith

  pub room_anywhere : (m g : ℕ) → g ≤ course.frames → g < m + plan.window → course_changes_upto plan course.env g ≤ course_changes_upto plan course.env m + suc plan.changes
  room_anywhere m g inside near =
      let few = within.few g inside in
      let below = count_le plan course.env (g - plan.window) m (omega arith) in
      omega arith

  -- A window that begins with the first moving frame `m` of a reconfiguration contains at most `plan_further plan`
  -- change frames after frame `m`.
  pub room_of : (m : ℕ) → (plan.settles ≡ false → (p : ℕ) × (m ≡ suc p) × (course_changes_at plan course.env (suc p) ≡ true)) → (g : ℕ) → g ≤ course.frames → g < m + plan.window → course_changes_upto plan course.env g ≤ course_changes_upto plan course.env m + plan_further plan
  room_of m begins g inside near = elim (further_cases plan) [
    | inl e ↦ rw e.1 (room_anywhere m g inside near)
    | inr e ↦ let b = begins e.0 in rw (e.1, b.1) (room_at_change b.0 g b.2 inside (rw b.1 at near))
  ]

  pub begins : (f c : ℕ) → f ≤ course.frames → c < plan.configurations → plan.choose c (course.env f) ≢ c
      → ((g : ℕ) → g ≤ course.frames → g < f + plan.window → course_changes_upto plan course.env g ≤ course_changes_upto plan course.env f + plan_further plan)
      → Deadlines plan course f f c (Some c) (plan.choose c (course.env f)) f
  begins f c inside known away room = record {
    from_in = known;
    to_in = accepted.choose_in c (course.env f) known;
    halts = λ h e. let is : c ≡ h = cc in (rw is at known, inl (sym is));
    whole = λ g late early. absurd (omega arith);
    begun = omega arith;
    now = omega arith;
    runnable = accepted.runnable c (course.env f) known (within.scope f inside);
    chosen_at = f;
    chosen_from = omega arith;
    chosen_to = omega arith;
    chosen = refl;
    fresh = λ _. refl;
    more = 0;
    counted = omega arith;
    halted = omega arith;
    settled = omega arith;
    few = omega arith;
    away = inl away;
    room = room;
  }

  pub bound_of : (first f from : ℕ) (halting : Option ℕ) (to since : ℕ) → f ≤ course.frames → Deadlines plan course first f from halting to since
      → (t : ℕ) × (plan.bound from to ≡ Some t) × (plan_least_bound plan from to ≤ t)
  bound_of first f from halting to since inside d =
      rw d.chosen at (accepted.bounded from (course.env d.chosen_at) d.from_in (within.scope d.chosen_at (omega arith)) (rw d.chosen d.away))

  -- A moving frame is within the bound, counted from the first moving frame (SP3).
  pub in_bound : (first f from : ℕ) (halting : Option ℕ) (to since t : ℕ) → Deadlines plan course first f from halting to since → plan_least_bound plan from to ≤ t → suc f ≤ first + t
  in_bound first f from halting to since t d enough = in_time f first since (plan_halting plan halting) (plan.halting from) plan.slowest (plan_further plan) d.more (plan.preparing to) (plan.initialising to) t d.settled d.halted d.few enough

  pub next_count : (first f from : ℕ) (halting : Option ℕ) (to since : ℕ) → suc f ≤ course.frames → (d : Deadlines plan course first f from halting to since) → NextCount plan course first f d.more
  next_count first f from halting to since inside d =
      let b = bound_of first f from halting to since (omega arith) d in
      let late = in_bound first f from halting to since b.0 d b.2 in
      let wide = accepted.windowed from to b.0 b.1 in
      let room = d.room (suc f) inside (omega arith) in
      let grows = count_grows plan course.env f in
      record {
        next = course_changes_upto plan course.env (suc f) - course_changes_upto plan course.env first;
        counted = omega arith;
        few = omega arith;
        grown = omega arith;
        changed = λ h. let one = count_changed plan course.env f h in omega arith;
      }

  pub kept_in : (first f from : ℕ) (halting : Option ℕ) (to since : ℕ) → Deadlines plan course first f from halting to since → course_changes_at plan course.env (suc f) ≡ false → course_wanted plan from to (course.env (suc f)) ≡ to
  kept_in first f from halting to since d calm =
      let same = accepted.tells (course.env f) (course.env (suc f)) calm in
      elim (wanted_cases plan from to (course.env (suc f))) [
        | inl e ↦ e.2
        | inr e ↦ elim e.0 [
          | inl prompt ↦ let at = d.fresh prompt in let was = d.chosen in cc (e.1)
          | inr not ↦ let was = d.runnable in cc
        ]
      ]

  pub wanted_runs : (from to : ℕ) (v : Env) → from < plan.configurations → plan.in_scope v ≡ true → plan.is_runnable (course_wanted plan from to v) v ≡ true
  wanted_runs from to v known inside = elim (wanted_cases plan from to v) [
    | inl e ↦ rw e.2 e.1
    | inr e ↦ rw e.1 (accepted.runnable from v known inside)
  ]

  pub wanted_in : (from to : ℕ) (v : Env) → from < plan.configurations → to < plan.configurations → course_wanted plan from to v < plan.configurations
  wanted_in from to v known aimed = elim (wanted_cases plan from to v) [
    | inl e ↦ rw e.2 aimed
    | inr e ↦ rw e.1 (accepted.choose_in from v known)
  ]

  -- The policy's target was chosen in some frame from the first moving frame to the next frame.
  pub chosen_when : (first f from : ℕ) (halting : Option ℕ) (to since : ℕ) → Deadlines plan course first f from halting to since
      → (t : ℕ) × (first ≤ t) × (t ≤ suc f) × (plan.choose from (course.env t) ≡ course_wanted plan from to (course.env (suc f))) × (plan.settles ≡ false → t ≡ suc f)
  chosen_when first f from halting to since d = elim (wanted_cases plan from to (course.env (suc f))) [
    | inl e ↦ (d.chosen_at, d.chosen_from, omega arith, (let was = d.chosen in cc (e.2)), λ h. cc)
    | inr e ↦ (suc f, omega arith, omega arith, sym e.1, λ h. refl)
  ]

  -- If the policy keeps the target, then the deadlines hold in the next frame.
  pub stays : (first f from : ℕ) (halting : Option ℕ) (to since : ℕ) → suc f ≤ course.frames → Deadlines plan course first f from halting to since
      → course_wanted plan from to (course.env (suc f)) ≡ to → suc f ≤ since + plan_halting plan halting + plan.preparing to + plan.initialising to → course_mode_at plan course f ≡ Moving from halting to since
      → Deadlines plan course first (suc f) from halting to since
  stays first f from halting to since inside d same young moded =
      let n = next_count first f from halting to since inside d in
      let w = chosen_when first f from halting to since d in
      let more : d.more * plan.slowest ≤ n.next * plan.slowest = scaled d.more n.next plan.slowest n.grown in
      let runs = rw same at (wanted_runs from to (course.env (suc f)) d.from_in (within.scope (suc f) inside)) in
      record {
        from_in = d.from_in;
        to_in = d.to_in;
        halts = d.halts;
        whole = λ g late early. elim (below_or_at g f early) [
          | inl k ↦ d.whole g late k
          | inr e ↦ rw e (record { moded = moded; before = d.runnable; behind = runs })
        ];
        begun = omega arith;
        now = omega arith;
        runnable = runs;
        chosen_at = w.0;
        chosen_from = w.1;
        chosen_to = w.2;
        chosen = w.3 ∙ same;
        fresh = w.4;
        more = n.next;
        counted = n.counted;
        halted = omega arith;
        settled = young;
        few = n.few;
        away = d.away;
        room = d.room;
      }

  -- If the policy chooses another target, then the deadlines hold in the next frame. The phases up to the target
  -- count from `start`, and their halting phase is not over.
  turns : (first f from : ℕ) (halting new : Option ℕ) (to since start : ℕ) (inside : suc f ≤ course.frames) (d : Deadlines plan course first f from halting to since)
      → course_wanted plan from to (course.env (suc f)) ≢ to → ((h : ℕ) → new ≡ Some h → (h < plan.configurations) × ((h ≡ from) ⊎ IsPlanTarget plan from h))
      → first ≤ start → start ≤ suc f → suc f ≤ start + plan_halting plan new
      → start + plan_halting plan new ≤ first + plan.halting from + (next_count first f from halting to since inside d).next * plan.slowest
      → suc d.more ≤ (next_count first f from halting to since inside d).next
      → Deadlines plan course first (suc f) from new (course_wanted plan from to (course.env (suc f))) start
  turns first f from halting new to since start inside d other halts begun now young halted changed =
      let n = next_count first f from halting to since inside d in
      let w = chosen_when first f from halting to since d in
      record {
        from_in = d.from_in;
        to_in = wanted_in from to (course.env (suc f)) d.from_in d.to_in;
        halts = halts;
        whole = λ g late soon. absurd (omega arith);
        begun = begun;
        now = now;
        runnable = wanted_runs from to (course.env (suc f)) d.from_in (within.scope (suc f) inside);
        chosen_at = w.0;
        chosen_from = w.1;
        chosen_to = w.2;
        chosen = w.3;
        fresh = w.4;
        more = n.next;
        counted = n.counted;
        halted = halted;
        settled = omega arith;
        few = n.few;
        away = inr (omega arith);
        room = d.room;
      }

  -- If the policy chooses another target, then the environment has changed.
  turn_changes : (first f from : ℕ) (halting : Option ℕ) (to since : ℕ) (inside : suc f ≤ course.frames) (d : Deadlines plan course first f from halting to since)
      → course_wanted plan from to (course.env (suc f)) ≢ to → suc d.more ≤ (next_count first f from halting to since inside d).next
  turn_changes first f from halting to since inside d other =
      (next_count first f from halting to since inside d).changed
      (not_false (course_changes_at plan course.env (suc f)) (λ calm. other (kept_in first f from halting to since d calm)))

  -- If the policy chooses another target before the halting phase is over, then the deadlines hold in the next frame.
  pub turns_early : (first f from : ℕ) (halting : Option ℕ) (to since : ℕ) → suc f ≤ course.frames → Deadlines plan course first f from halting to since
      → course_wanted plan from to (course.env (suc f)) ≢ to → suc f - since < plan_halting plan halting
      → Deadlines plan course first (suc f) from halting (course_wanted plan from to (course.env (suc f))) since
  turns_early first f from halting to since inside d other early =
      let n = next_count first f from halting to since inside d in
      let more : d.more * plan.slowest ≤ n.next * plan.slowest = scaled d.more n.next plan.slowest n.grown in
      turns first f from halting halting to since since inside d other d.halts d.begun (omega arith) (omega arith) (omega arith)
      (turn_changes first f from halting to since inside d other)

  -- If the policy chooses another target and the phases begin anew, then the deadlines hold in the next frame.
  pub turns_anew : (first f from : ℕ) (halting new : Option ℕ) (to since : ℕ) → suc f ≤ course.frames → Deadlines plan course first f from halting to since
      → course_wanted plan from to (course.env (suc f)) ≢ to → plan_halting plan new ≤ plan.halting to → ((h : ℕ) → new ≡ Some h → h ≡ to)
      → Deadlines plan course first (suc f) from new (course_wanted plan from to (course.env (suc f))) (suc f)
  turns_anew first f from halting new to since inside d other small news =
      let n = next_count first f from halting to since inside d in
      let changed = turn_changes first f from halting to since inside d other in
      let more : suc d.more * plan.slowest ≤ n.next * plan.slowest = scaled (suc d.more) n.next plan.slowest changed in
      let slow = accepted.slow to d.to_in in
      let end = later f first since (plan_halting plan halting) (plan.halting from) plan.slowest d.more (plan.preparing to) (plan.initialising to) (plan.halting to) d.settled d.halted slow in
      turns first f from halting new to since (suc f) inside d other
      (λ h e. rw (news h e) (d.to_in, inr (record { seen = course.env d.chosen_at; scope = within.scope d.chosen_at (omega arith); chosen = d.chosen })))
      (omega arith) (omega arith) (omega arith) (omega arith) changed
