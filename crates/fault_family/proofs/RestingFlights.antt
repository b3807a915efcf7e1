-- If a flight is at rest, everything that follows the rest may come later, and the flight continues in the same way.
use Rattle.std.proofs.Common.{◌≡◌, ◌∙◌, ℕ, zero, suc, ◌+◌, ◌-◌, ◌<◌, ◌≤◌, Bool, true, false, List, ◌++◌, length, map, append_assoc, arith, ap, refl, sym, subst, nat_lt}
use Rattle.std.specs.Prelude.{◌&&◌, ◌==◌, nat_le, if◌then◌else◌, Option, Some, None}
use Rattle.std.proofs.Math.Path.{fun_ext}
use Rattle.std.proofs.lemmas.Bool.Decides.{nat_tests}
use Rattle.std.proofs.lemmas.List.{map-append}
use Rattle.scram_types.proofs.Searches.{length_listed}
use Rattle.scram_types.specs.Searches.{listed_below}
use Rattle.scram_types.specs.declared.rows.Env.{Env}
use Rattle.scram_types.specs.declared.rows.Report.{Report}
use Rattle.scram_types.specs.declared.rows.Row.{Row}
use Rattle.scram_types.specs.declared.ids.ConfId.{ConfId}
use Rattle.scram_types.specs.declared.orders.Act.{Act}
use Rattle.scram_types.specs.declared.orders.KMode.{KMode}
use Rattle.scram_types.specs.declared.orders.KMode.TheVariants.{Stable, Moving}
use Rattle.scram_types.specs.Scripts.{ScriptParts}
use Rattle.scram_types.specs.Specification.{Each, Parts}
use Rattle.choice_table.specs.Choices.{choose}
use Rattle.fault_script.specs.Environments.{env_at}
use Rattle.fault_script.specs.Times.{commits}
use Rattle.frame_model.proofs.ReadLaws.{ended_append, reading_append}
use Rattle.dep_order.specs.Timetables.{halting_time, initialising_time, preparing_time}
use Rattle.frame_model.specs.declared.phases.Phase.{Phase}
use Rattle.frame_model.specs.declared.phases.Phase.TheVariants.{Halting, Initialising, Preparing, Running}
use Rattle.frame_model.specs.declared.readings.Reading.{Reading}
use Rattle.frame_model.specs.declared.readings.Reading.TheVariants.{Steady}
use Rattle.frame_model.specs.Decisions.{decision, leave_for}
use Rattle.frame_model.specs.Flights.{reports_of, row_at, rows_of, state_after}
use Rattle.frame_model.specs.Phases.{after_halting, halting_frames, is_running, is_settled, moving_phase, phase_at, target}
use Rattle.frame_model.specs.Readings.{as_list, close, ended, ended_in, reading_after, reading_of}
use Rattle.frame_model.specs.Runs.{runs}
use Rattle.frame_model.specs.States.{State, acts_in, row_of, step}
use Rattle.fault_family.specs.Rests.{IsAtRest, RestsMayBeLonger, later_from}
use Rattle.fault_family.specs.Shifts.{mode_later, report_later}
use Rattle.fault_family.proofs.LaterFlights.{acts_of, close_later, decision_later, each_listed, ended_later, leave_later, listed_parts, map_listed, phase_later, quiet_ended, quiet_reading, reading_after_later, reading_later, settled_later, target_later}
use Rattle.fault_family.proofs.Moving.{Shows, shows_before, shows_later, shows_resting}

-- Lemmas on phases in which a configuration is to run.

conf_of : Phase → ConfId
conf_of (Running c) = c
conf_of (Halting c age) = c
conf_of (Preparing c age) = c
conf_of (Initialising c age) = c

conf_where : (a b : Bool) (x y z : Phase) (c : ConfId) → conf_of x ≡ c → conf_of y ≡ c → conf_of z ≡ c → conf_of (if a then x else (if b then y else z)) ≡ c
conf_where true b x y z c p q r = p
conf_where false true x y z c p q r = q
conf_where false false x y z c p q r = r

conf_after : (spec : Parts) (to : ConfId) (age : ℕ) → conf_of (after_halting spec to age) ≡ to
unfolding conf_of
conf_after spec to age =
    conf_where (nat_lt age (preparing_time spec to)) (nat_lt (age - preparing_time spec to) (initialising_time spec to)) (Preparing to age) (Initialising to (age - preparing_time spec to)) (Running to) to refl refl refl

halts_or_not : (b : Bool) (x : ConfId) (age : ℕ) (phase : Phase) (c : ConfId) → (if b then Halting x age else phase) ≡ Running c → phase ≡ Running c
unfolding conf_of
halts_or_not true x age phase c same = absurd (let clash = ap is_running same in cc)
halts_or_not false x age phase c same = same

runs_target : (spec : Parts) (halting : Option ConfId) (to : ConfId) (age : ℕ) (c : ConfId) → moving_phase spec halting to age ≡ Running c → to ≡ c
unfolding conf_of
runs_target spec None to age c same = sym (conf_after spec to age) ∙ ap conf_of same
runs_target spec (Some x) to age c same =
    sym (conf_after spec to (age - halting_time spec x))
    ∙ ap conf_of (halts_or_not (nat_lt age (halting_time spec x)) x age (after_halting spec to (age - halting_time spec x)) c same)

past_by : (to c : ConfId) (age p i : ℕ) (a b : Bool) → nat_lt age p ≡ a → nat_lt (age - p) i ≡ b → (if a then Preparing to age else (if b then Initialising to (age - p) else Running to)) ≡ Running c → p + i ≤ age
past_by to c age p i true b is_a is_b same = absurd (let clash = ap is_running same in cc)
past_by to c age p i false true is_a is_b same = absurd (let clash = ap is_running same in cc)
past_by to c age p i false false is_a is_b same = grind (arith, nat_tests, is_a, is_b)

past_phases : (spec : Parts) (to c : ConfId) (age : ℕ) → after_halting spec to age ≡ Running c → preparing_time spec to + initialising_time spec to ≤ age
past_phases spec to c age same =
    past_by to c age (preparing_time spec to) (initialising_time spec to) (nat_lt age (preparing_time spec to)) (nat_lt (age - preparing_time spec to) (initialising_time spec to)) refl refl same

halted_by : (x c : ConfId) (age h : ℕ) (phase : Phase) (b : Bool) → nat_lt age h ≡ b → (if b then Halting x age else phase) ≡ Running c → h ≤ age
halted_by x c age h phase true is same = absurd (let clash = ap is_running same in cc)
halted_by x c age h phase false is same = grind (arith, nat_tests, is)

past : (spec : Parts) (halting : Option ConfId) (to c : ConfId) (age : ℕ) → moving_phase spec halting to age ≡ Running c
    → nat_le (halting_frames spec halting + preparing_time spec to + initialising_time spec to) age ≡ true
past spec None to c age same = let late = past_phases spec to c age same in grind (arith, nat_tests, late)
past spec (Some x) to c age same =
    let halted = halted_by x c age (halting_time spec x) (after_halting spec to (age - halting_time spec x)) (nat_lt age (halting_time spec x)) refl same in
    let late = past_phases spec to c (age - halting_time spec x) (halts_or_not (nat_lt age (halting_time spec x)) x age (after_halting spec to (age - halting_time spec x)) c same) in
    grind (arith, nat_tests, late, halted)

listed_same : {A : Type 0} (f g : ℕ → A) (n : ℕ) → ((k : ℕ) → k < n → f k ≡ g k) → listed_below f n ≡ listed_below g n
listed_same f g zero same = refl
listed_same f g (suc n) same = rw (listed_same f g n (λ k below. same k (omega (arith, below))), same n (omega arith)) refl

module _ (spec : Parts) (b d : ℕ) (c : ConfId) (script : ScriptParts) (rest : IsAtRest spec script b c) where
  later : ScriptParts
  later = later_from b d script

  -- Before frame `b`, the flights of both scripts have the same states and rows.

  module _ (f : ℕ) (shows : Shows spec b d script f f) where
    same_committing : ◌≡◌ {A = ℕ → Bool} (λ p. commits spec (later_from b d script) p f) (λ p. commits spec script p f)
    same_committing = fun_ext shows.committing

  state_same : (n : ℕ) → n ≤ b → state_after spec (later_from b d script) n ≡ state_after spec script n
  state_same zero early = refl
  state_same (suc n) early =
      let shows = shows_before spec b d script n (omega (arith, early)) in
      ap (step spec n (env_at spec (later_from b d script) n) (λ p. commits spec (later_from b d script) p n)) (state_same n (omega (arith, early)))
      ∙ ap (λ v. step spec n v (λ p. commits spec (later_from b d script) p n) (state_after spec script n)) shows.env
      ∙ ap (λ committing. step spec n (env_at spec script n) committing (state_after spec script n)) (same_committing n shows)

  row_same : (f : ℕ) → f < b → row_at spec (later_from b d script) f ≡ row_at spec script f
  row_same f early =
      let shows = shows_before spec b d script f early in
      ap (row_of spec f (env_at spec (later_from b d script) f) (λ p. commits spec (later_from b d script) p f)) (state_same f (omega (arith, early)))
      ∙ ap (λ v. row_of spec f v (λ p. commits spec (later_from b d script) p f) (state_after spec script f)) shows.env
      ∙ ap (λ committing. row_of spec f (env_at spec script f) committing (state_after spec script f)) (same_committing f shows)

  -- Lemmas on the frames of the rest.

  -- A state leads to the same decision as a state with the mode `Stable c`.
  IsResting : State → Type 0
  IsResting state = (f : ℕ) (settled : Bool) (v : Env) → decision spec f state.mode settled state.arrived v ≡ leave_for c (choose spec c v) f

  rests_by : (f : ℕ) (mode : KMode) (acts : List Act) → phase_at spec mode f ≡ Running c → runs spec acts c ≡ true
      → (g : ℕ) (settled : Bool) (v : Env) → decision spec g mode settled (is_settled spec mode f && runs spec acts (target mode)) v ≡ leave_for c (choose spec c v) g
  unfolding conf_of
  rests_by f (Stable x) acts phase run g settled v = ap (λ (y : ConfId). leave_for y (choose spec y v) g) (ap conf_of phase)
  rests_by f (Moving from halting to since) acts phase run g settled v =
      let is_c = runs_target spec halting to (f - since) c phase in
      let late : is_settled spec (Moving from halting to since) f ≡ true = past spec halting to c (f - since) phase in
      let run_to : runs spec acts to ≡ true = subst (λ (y : ConfId). runs spec acts y ≡ true) (sym is_c) run in
      let arrived : (is_settled spec (Moving from halting to since) f && runs spec acts to) ≡ true = rw (late, run_to) refl in
      ap (λ (here : Bool). decision spec g (Moving from halting to since) settled here v) arrived
      ∙ ap (λ (y : ConfId). leave_for y (choose spec y v) g) is_c

  rests : IsResting (state_after spec script b)
  unfolding IsResting
  rests =
      let some = rest.first in
      let here : suc (b - 1) ≡ b = omega (arith, some) in
      subst (λ n. (f : ℕ) (settled : Bool) (v : Env) → decision spec f (state_after spec script n).mode settled (state_after spec script n).arrived v ≡ leave_for c (choose spec c v) f) here
      (rests_by (b - 1) (row_at spec script (b - 1)).mode (row_at spec script (b - 1)).acts rest.phase rest.runs)

  stays : (f : ℕ) (v : Env) → v ≡ env_at spec script (b - 1) → leave_for c (choose spec c v) f ≡ Stable c
  stays f v same =
      let alike : (c.0 == c.0) ≡ true = grind (arith, nat_tests) in
      rw (same, rest.chosen, alike) refl

  resting_decides : (g : ℕ) → b ≤ g → g < d + b → IsResting (state_after spec (later_from b d script) g) → (row_at spec (later_from b d script) g).mode ≡ Stable c
  unfolding IsResting
  resting_decides g after before resting =
      resting g (is_settled spec (state_after spec (later_from b d script) g).mode (g - 1)) (env_at spec (later_from b d script) g)
      ∙ stays g (env_at spec (later_from b d script) g) (shows_resting spec b d script rest.first rest.quiet g after before).env

  stable_rests : (state : State) → state.mode ≡ Stable c → IsResting state
  unfolding IsResting
  stable_rests state is f settled v = ap (λ (mode : KMode). decision spec f mode settled state.arrived v) is

  resting_after : (k : ℕ) → k ≤ d → IsResting (state_after spec (later_from b d script) (b + k))
  resting_after zero inside =
      let here : b + 0 ≡ b = omega arith in
      rw here (subst IsResting (sym (state_same b (omega arith))) rests)
  resting_after (suc k) inside =
      let next : b + suc k ≡ suc (b + k) = omega arith in
      let decided = resting_decides (b + k) (omega arith) (omega (arith, inside)) (resting_after k (omega (arith, inside))) in
      rw next (stable_rests (state_after spec (later_from b d script) (suc (b + k))) decided)

  resting_runs : (k : ℕ) → k < d → runs spec (row_at spec (later_from b d script) (b + k)).acts c ≡ true
  resting_runs k inside =
      let decided = resting_decides (b + k) (omega arith) (omega (arith, inside)) (resting_after k (omega (arith, inside))) in
      let shows = shows_resting spec b d script rest.first rest.quiet (b + k) (omega arith) (omega (arith, inside)) in
      ap (λ (mode : KMode). runs spec (acts_in spec (phase_at spec mode (b + k)) (λ p. commits spec (later_from b d script) p (b + k))) c) decided
      ∙ ap (λ committing. runs spec (acts_in spec (Running c) committing) c) (fun_ext shows.committing)
      ∙ ap (λ phase. runs spec (acts_in spec phase (λ p. commits spec script p (b - 1))) c) (sym rest.phase)
      ∙ rest.runs

  -- Lemmas on the frames from frame `b` on.

  record IsLater (state after : State) : Type 0 where
    mode : after.mode ≡ mode_later d state.mode
    arrived : after.arrived ≡ state.arrived

  record IsRowLater (f : ℕ) : Type 0 where
    mode : (row_at spec (later_from b d script) (d + f)).mode ≡ mode_later d (row_at spec script f).mode
    acts : (row_at spec (later_from b d script) (d + f)).acts ≡ (row_at spec script f).acts

  row_where : (f : ℕ) → b ≤ f → (row_at spec (later_from b d script) (d + f)).mode ≡ mode_later d (row_at spec script f).mode → IsRowLater f
  row_where f after decided =
      let shows = shows_later spec b d script f after in
      record {
        mode = decided;
        acts = ap (λ (mode : KMode). acts_in spec (phase_at spec mode (d + f)) (λ p. commits spec (later_from b d script) p (d + f))) decided
            ∙ ap (λ phase. acts_in spec phase (λ p. commits spec (later_from b d script) p (d + f))) (phase_later spec d (row_at spec script f).mode f)
            ∙ ap (acts_in spec (phase_at spec (row_at spec script f).mode f)) (fun_ext shows.committing);
      }

  -- The flight of the script is at rest at the start of frame `b`, and the flight of the later script is at rest at
  -- the start of frame `d + b`. Therefore `IsRowLater` holds for frame `b`.
  row_first : IsRowLater b
  unfolding IsResting
  row_first =
      let here : b + d ≡ d + b = omega arith in
      let shows = shows_later spec b d script b (omega arith) in
      let state = state_after spec (later_from b d script) (d + b) in
      let resting : (f : ℕ) (settled : Bool) (v : Env) → decision spec f state.mode settled state.arrived v ≡ leave_for c (choose spec c v) f = subst (λ n. IsResting (state_after spec (later_from b d script) n)) here (resting_after d (omega arith)) in
      row_where b (omega arith)
      (resting (d + b) (is_settled spec state.mode (d + b - 1)) (env_at spec (later_from b d script) (d + b))
      ∙ ap (λ v. leave_for c (choose spec c v) (d + b)) shows.env
      ∙ leave_later spec d c (choose spec c (env_at spec script b)) b
      ∙ ap (mode_later d) (sym (rests b (is_settled spec (state_after spec script b).mode (b - 1)) (env_at spec script b))))

  row_later : (f : ℕ) → b ≤ f → IsLater (state_after spec script f) (state_after spec (later_from b d script) (d + f)) → IsRowLater f
  row_later f after is =
      let some = rest.first in
      let shows = shows_later spec b d script f after in
      let state = state_after spec script f in
      let moved_state = state_after spec (later_from b d script) (d + f) in
      let back : d + f - 1 ≡ d + (f - 1) = omega (arith, some, after) in
      let settled : is_settled spec (mode_later d state.mode) (d + f - 1) ≡ is_settled spec state.mode (f - 1) = rw back (settled_later spec d state.mode (f - 1)) in
      row_where f after
      (ap (λ (mode : KMode). decision spec (d + f) mode (is_settled spec mode (d + f - 1)) moved_state.arrived (env_at spec (later_from b d script) (d + f))) is.mode
      ∙ ap (λ (arrived : Bool). decision spec (d + f) (mode_later d state.mode) (is_settled spec (mode_later d state.mode) (d + f - 1)) arrived (env_at spec (later_from b d script) (d + f))) is.arrived
      ∙ ap (decision spec (d + f) (mode_later d state.mode) (is_settled spec (mode_later d state.mode) (d + f - 1)) state.arrived) shows.env
      ∙ ap (λ (past : Bool). decision spec (d + f) (mode_later d state.mode) past state.arrived (env_at spec script f)) settled
      ∙ decision_later spec d state.mode f (is_settled spec state.mode (f - 1)) state.arrived (env_at spec script f))

  -- If `IsRowLater` holds for a frame, `IsLater` holds for the states after the frame, and `IsRowLater` holds for the
  -- next frame.
  state_next : (f : ℕ) → IsRowLater f → IsLater (state_after spec script (suc f)) (state_after spec (later_from b d script) (suc (d + f)))
  state_next f row = record {
    mode = row.mode;
    arrived =
        ap (λ (mode : KMode). is_settled spec mode (d + f) && runs spec (row_at spec (later_from b d script) (d + f)).acts (target mode)) row.mode
        ∙ ap (λ (acts : List Act). is_settled spec (mode_later d (row_at spec script f).mode) (d + f) && runs spec acts (target (mode_later d (row_at spec script f).mode))) row.acts
        ∙ ap (λ (settled : Bool). settled && runs spec (row_at spec script f).acts (target (mode_later d (row_at spec script f).mode))) (settled_later spec d (row_at spec script f).mode f)
        ∙ ap (λ (x : ConfId). is_settled spec (row_at spec script f).mode f && runs spec (row_at spec script f).acts x) (target_later spec d (row_at spec script f).mode);
  }

  row_on : (n : ℕ) → IsRowLater (b + n)
  row_on zero = let here : b + 0 ≡ b = omega arith in subst IsRowLater (sym here) row_first
  row_on (suc n) =
      let here : suc (b + n) ≡ b + suc n = omega arith in
      let there : suc (d + (b + n)) ≡ d + suc (b + n) = omega arith in
      let state = subst (λ m. IsLater (state_after spec script (suc (b + n))) (state_after spec (later_from b d script) m)) there (state_next (b + n) (row_on n)) in
      subst IsRowLater here (row_later (suc (b + n)) (omega arith) state)

  later_row : (f : ℕ) → b ≤ f → IsRowLater f
  later_row f after =
      let here : b + (f - b) ≡ f = omega (arith, after) in
      subst IsRowLater here (row_on (f - b))

  -- Lemmas on the reconfigurations of both flights.

  count : ℕ
  count = script.frames - b

  front : List Row
  front = listed_below (row_at spec script) b

  still : List Row
  still = listed_below (λ k. row_at spec (later_from b d script) (b + k)) d

  back : List Row
  back = listed_below (λ k. row_at spec script (b + k)) (script.frames - b)

  moved_back : List Row
  moved_back = listed_below (λ k. row_at spec (later_from b d script) (b + (d + k))) (script.frames - b)

  rows_are : rows_of spec script ≡ front ++ back
  unfolding front back
  rows_are =
      let inside = rest.inside in
      let all : script.frames ≡ b + (script.frames - b) = omega (arith, inside) in
      ap (listed_below (row_at spec script)) all ∙ listed_parts (row_at spec script) b (script.frames - b)

  later_rows_are : rows_of spec (later_from b d script) ≡ front ++ (still ++ moved_back)
  unfolding front still moved_back
  later_rows_are =
      let inside = rest.inside in
      let all : d + script.frames ≡ b + (d + (script.frames - b)) = omega (arith, inside) in
      ap (listed_below (row_at spec (later_from b d script))) all
      ∙ listed_parts (row_at spec (later_from b d script)) b (d + (script.frames - b))
      ∙ ap (λ rows. rows ++ listed_below (λ k. row_at spec (later_from b d script) (b + k)) (d + (script.frames - b))) (listed_same (row_at spec (later_from b d script)) (row_at spec script) b row_same)
      ∙ ap (λ rows. listed_below (row_at spec script) b ++ rows) (listed_parts (λ k. row_at spec (later_from b d script) (b + k)) d (script.frames - b))

  still_runs : Each (λ (row : Row). runs spec row.acts c ≡ true) still
  unfolding still
  still_runs = each_listed (λ (row : Row). runs spec row.acts c ≡ true) (λ k. row_at spec (later_from b d script) (b + k)) d resting_runs

  same_acts : map (acts_of spec d) moved_back ≡ map (acts_of spec d) back
  unfolding moved_back back acts_of
  same_acts =
      map_listed (acts_of spec d) (λ k. row_at spec (later_from b d script) (b + (d + k))) (script.frames - b)
      ∙ ap (λ acts. listed_below acts (script.frames - b)) (fun_ext (λ k.
      let turned : b + (d + k) ≡ d + (b + k) = omega arith in
      ap (λ n. (row_at spec (later_from b d script) n).acts) turned ∙ (later_row (b + k) (omega arith)).acts))
      ∙ sym (map_listed (acts_of spec d) (λ k. row_at spec script (b + k)) (script.frames - b))

  front_read : reading_after spec (Steady spec.start) 0 front ≡ Steady c
  unfolding front
  front_read = rest.reading

  front_length : 0 + length front ≡ b
  unfolding front
  front_length = let n = length_listed (row_at spec script) b in omega (arith, n)

  still_length : b + length still ≡ d + b
  unfolding still
  still_length = let n = length_listed (λ k. row_at spec (later_from b d script) (b + k)) d in omega (arith, n)

  ended_script : ended spec (rows_of spec script) ≡ ended spec front ++ ended_in spec (Steady c) b back
  ended_script =
      ap (ended spec) rows_are ∙ ended_append spec (Steady spec.start) 0 front back
      ∙ ap (λ (reading : Reading). ended spec front ++ ended_in spec reading (0 + length front) back) front_read
      ∙ ap (λ n. ended spec front ++ ended_in spec (Steady c) n back) front_length

  behind_ended : ended_in spec (Steady c) b (still ++ moved_back) ≡ map (report_later d) (ended_in spec (Steady c) b back)
  unfolding reading_later
  behind_ended =
      ended_append spec (Steady c) b still moved_back
      ∙ ap (λ (before : List Report). before ++ ended_in spec (reading_after spec (Steady c) b still) (b + length still) moved_back) (quiet_ended spec c b still still_runs)
      ∙ ap (λ (reading : Reading). ended_in spec reading (b + length still) moved_back) (quiet_reading spec c b still still_runs)
      ∙ ap (λ n. ended_in spec (Steady c) n moved_back) still_length
      ∙ ended_later spec d (Steady c) b moved_back back same_acts

  ended_moved : ended spec (rows_of spec (later_from b d script)) ≡ ended spec front ++ map (report_later d) (ended_in spec (Steady c) b back)
  ended_moved =
      ap (ended spec) later_rows_are ∙ ended_append spec (Steady spec.start) 0 front (still ++ moved_back)
      ∙ ap (λ (reading : Reading). ended spec front ++ ended_in spec reading (0 + length front) (still ++ moved_back)) front_read
      ∙ ap (λ n. ended spec front ++ ended_in spec (Steady c) n (still ++ moved_back)) front_length
      ∙ ap (λ (rest_of : List Report). ended spec front ++ rest_of) behind_ended

  reading_script : reading_of spec (rows_of spec script) ≡ reading_after spec (Steady c) b back
  reading_script =
      ap (reading_of spec) rows_are ∙ reading_append spec (Steady spec.start) 0 front back
      ∙ ap (λ (reading : Reading). reading_after spec reading (0 + length front) back) front_read
      ∙ ap (λ n. reading_after spec (Steady c) n back) front_length

  reading_moved : reading_of spec (rows_of spec (later_from b d script)) ≡ reading_later spec d (reading_after spec (Steady c) b back)
  unfolding reading_later
  reading_moved =
      ap (reading_of spec) later_rows_are ∙ reading_append spec (Steady spec.start) 0 front (still ++ moved_back)
      ∙ ap (λ (reading : Reading). reading_after spec reading (0 + length front) (still ++ moved_back)) front_read
      ∙ ap (λ n. reading_after spec (Steady c) n (still ++ moved_back)) front_length
      ∙ reading_append spec (Steady c) b still moved_back
      ∙ ap (λ (reading : Reading). reading_after spec reading (b + length still) moved_back) (quiet_reading spec c b still still_runs)
      ∙ ap (λ n. reading_after spec (Steady c) n moved_back) still_length
      ∙ reading_after_later spec d (Steady c) b moved_back back same_acts

  frames_moved : length (rows_of spec (later_from b d script)) ≡ d + length (rows_of spec script)
  frames_moved =
      let other = length_listed (row_at spec (later_from b d script)) (d + script.frames) in
      let one = length_listed (row_at spec script) script.frames in
      omega (arith, other, one)

  last : List Report
  last = as_list (close (reading_after spec (Steady c) b back) (length (rows_of spec script)))

  reports_are : reports_of spec script ≡ ended spec front ++ (ended_in spec (Steady c) b back ++ last)
  unfolding last
  reports_are =
      ap (λ (before : List Report). before ++ as_list (close (reading_of spec (rows_of spec script)) (length (rows_of spec script)))) ended_script
      ∙ ap (λ (reading : Reading). (ended spec front ++ ended_in spec (Steady c) b back) ++ as_list (close reading (length (rows_of spec script)))) reading_script
      ∙ append_assoc (ended spec front) (ended_in spec (Steady c) b back) (as_list (close (reading_after spec (Steady c) b back) (length (rows_of spec script))))

  later_reports_are : reports_of spec (later_from b d script) ≡ ended spec front ++ map (report_later d) (ended_in spec (Steady c) b back ++ last)
  unfolding last
  later_reports_are =
      let part = ended_in spec (Steady c) b back in
      let end = as_list (close (reading_after spec (Steady c) b back) (length (rows_of spec script))) in
      ap (λ (before : List Report). before ++ as_list (close (reading_of spec (rows_of spec (later_from b d script))) (length (rows_of spec (later_from b d script))))) ended_moved
      ∙ ap (λ (reading : Reading). (ended spec front ++ map (report_later d) (ended_in spec (Steady c) b back)) ++ as_list (close reading (length (rows_of spec (later_from b d script))))) reading_moved
      ∙ ap (λ n. (ended spec front ++ map (report_later d) (ended_in spec (Steady c) b back)) ++ as_list (close (reading_later spec d (reading_after spec (Steady c) b back)) n)) frames_moved
      ∙ ap (λ (rest_of : List Report). (ended spec front ++ map (report_later d) (ended_in spec (Steady c) b back)) ++ rest_of)
      (close_later spec d (reading_after spec (Steady c) b back) (length (rows_of spec script)))
      ∙ append_assoc (ended spec front) (map (report_later d) (ended_in spec (Steady c) b back)) (map (report_later d) (as_list (close (reading_after spec (Steady c) b back) (length (rows_of spec script)))))
      ∙ ap (λ (rest_of : List Report). ended spec front ++ rest_of)
      (sym (map-append (report_later d) (ended_in spec (Steady c) b back) (as_list (close (reading_after spec (Steady c) b back) (length (rows_of spec script))))))

pub rests_may_be_longer : RestsMayBeLonger
rests_may_be_longer spec b d c script rest = record {
  rows = row_same spec b d c script rest;
  acts = λ f after. (later_row spec b d c script rest f after).acts;
  modes = λ f after. (later_row spec b d c script rest f after).mode;
  reports = record {
    before = ended spec (front spec b d c script rest);
    after = ended_in spec (Steady c) b (back spec b d c script rest) ++ last spec b d c script rest;
    parts = reports_are spec b d c script rest;
    later = later_reports_are spec b d c script rest;
  };
}
