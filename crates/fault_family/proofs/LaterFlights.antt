-- A script in which everything comes some frames later has the same flight, later by that number of frames.
use Rattle.std.proofs.Common.{◌≡◌, ◌∙◌, ℕ, zero, suc, ◌+◌, ◌-◌, ◌<◌, ◌≤◌, Bool, true, false, List, [], ◌∷◌, ◌++◌, length, map, append_assoc, append-nil, arith, ap, refl, sym, subst, nat_lt}
use Rattle.std.specs.Prelude.{◌&&◌, ◌==◌, nat_le, if◌then◌else◌, Option, Some, None}
use Rattle.std.specs.List.{list_any}
use Rattle.std.proofs.lemmas.List.{map-append}
use Rattle.std.proofs.Math.Bool.{and-false}
use Rattle.std.proofs.Math.Path.{fun_ext}
use Rattle.std.proofs.lemmas.Bool.Decides.{nat_tests}
use Rattle.scram_types.proofs.BitSets.{bits_all}
use Rattle.scram_types.proofs.Equality.{same_env}
use Rattle.scram_types.proofs.Eights.{eight_at}
use Rattle.scram_types.proofs.Searches.{each_all, length_listed}
use Rattle.scram_types.specs.Lookups.{opening_env, place_of}
use Rattle.scram_types.specs.Searches.{listed_below}
use Rattle.scram_types.specs.declared.rows.Report.{Report}
use Rattle.scram_types.specs.declared.rows.Row.{Row}
use Rattle.scram_types.specs.declared.specification.Place.{Place}
use Rattle.scram_types.specs.declared.orders.Act.TheVariants.{Off}
use Rattle.scram_types.specs.declared.orders.Order.TheVariants.{Run}
use Rattle.scram_types.specs.declared.rows.Env.{Env}
use Rattle.scram_types.specs.declared.ids.ConfId.{ConfId}
use Rattle.scram_types.specs.declared.orders.Act.{Act}
use Rattle.scram_types.specs.declared.orders.KMode.{KMode}
use Rattle.scram_types.specs.declared.orders.KMode.TheVariants.{Stable, Moving}
use Rattle.scram_types.specs.declared.scripts.HaltAt.{HaltAt}
use Rattle.scram_types.specs.Scripts.{ScriptParts}
use Rattle.scram_types.specs.Specification.{Each, IsSpec, Parts}
use Rattle.choice_table.specs.Choices.{choose}
use Rattle.coverage_check.specs.Acceptance.{Accepts}
use Rattle.fault_script.specs.Environments.{env_at}
use Rattle.fault_script.specs.Fits.{Fits}
use Rattle.fault_script.specs.Times.{commits, factor_at, is_halt_in, words}
use Rattle.frame_model.specs.Decisions.{decision, leave_for, moving_decision, turn_to, wanted}
use Rattle.frame_model.proofs.ReadLaws.{ended_append, reading_append}
use Rattle.frame_model.specs.declared.phases.Phase.TheVariants.{Running}
use Rattle.frame_model.specs.declared.readings.Reading.{Reading}
use Rattle.frame_model.specs.declared.readings.Reading.TheVariants.{Steady, Leaving}
use Rattle.frame_model.specs.Flights.{reports_of, row_at, rows_of, state_after}
use Rattle.frame_model.specs.Readings.{arrival, arrive, as_list, close, ended, ended_in, read_row, reading_after, reading_of, report_of}
use Rattle.frame_model.specs.Tasks.{task_for, task_in}
use Rattle.frame_model.specs.Phases.{halting_frames, is_settled, moving_phase, phase_at, target}
use Rattle.frame_model.specs.Runs.{act_at, is_run_by, running, runs}
use Rattle.frame_model.specs.States.{State, act_after, acts_in, mode_decided}
use Rattle.fault_family.specs.Shifts.{LaterScriptsFlyTheSame, later_by, mode_later, report_later}
use Rattle.fault_family.proofs.Joined.{stands_listed}
use Rattle.fault_family.proofs.Shifting.{commits_later, environment_before, environment_later, nothing_at_first, up_before}

module _ (spec : Parts) (d : ℕ) where
  same_age : (f since : ℕ) → d + f - (d + since) ≡ f - since
  same_age f since = omega arith

  pub settled_later : (mode : KMode) (f : ℕ) → is_settled spec (mode_later d mode) (d + f) ≡ is_settled spec mode f
  settled_later (Stable c) f = refl
  settled_later (Moving from halting to since) f = rw (same_age f since) refl

  pub phase_later : (mode : KMode) (f : ℕ) → phase_at spec (mode_later d mode) (d + f) ≡ phase_at spec mode f
  phase_later (Stable c) f = refl
  phase_later (Moving from halting to since) f = ap (moving_phase spec halting to) (same_age f since)

  pub target_later : (mode : KMode) → target (mode_later d mode) ≡ target mode
  target_later (Stable c) = refl
  target_later (Moving from halting to since) = refl

  mode_where : (b : Bool) (x y : KMode) → (if b then mode_later d x else mode_later d y) ≡ mode_later d (if b then x else y)
  mode_where true x y = refl
  mode_where false x y = refl

  turn_later : (f : ℕ) (from : ConfId) (halting : Option ConfId) (to : ConfId) (since : ℕ) (settled : Bool) (t : ConfId)
      → turn_to spec (d + f) from halting to (d + since) settled t ≡ mode_later d (turn_to spec f from halting to since settled t)
  turn_later f from halting to since settled t =
      ap (λ age. if nat_lt age (halting_frames spec halting) then Moving from halting t (d + since) else (if settled then Moving from (Some to) t (d + f) else Moving from None t (d + f))) (same_age f since)
      ∙ ap (λ (rest : KMode). if nat_lt (f - since) (halting_frames spec halting) then Moving from halting t (d + since) else rest) (mode_where settled (Moving from (Some to) t f) (Moving from None t f))
      ∙ mode_where (nat_lt (f - since) (halting_frames spec halting)) (Moving from halting t since) (if settled then Moving from (Some to) t f else Moving from None t f)

  moving_later : (f : ℕ) (from : ConfId) (halting : Option ConfId) (to : ConfId) (since : ℕ) (settled : Bool) (t : ConfId)
      → moving_decision spec (d + f) from halting to (d + since) settled t ≡ mode_later d (moving_decision spec f from halting to since settled t)
  moving_later f from halting to since settled t =
      ap (λ (rest : KMode). if t.0 == to.0 then Moving from halting to (d + since) else rest) (turn_later f from halting to since settled t)
      ∙ mode_where (t.0 == to.0) (Moving from halting to since) (turn_to spec f from halting to since settled t)

  pub leave_later : (c t : ConfId) (f : ℕ) → leave_for c t (d + f) ≡ mode_later d (leave_for c t f)
  leave_later c t f = mode_where (t.0 == c.0) (Stable c) (Moving c (Some c) t f)

  pub decision_later : (mode : KMode) (f : ℕ) (settled arrived : Bool) (v : Env) → decision spec (d + f) (mode_later d mode) settled arrived v ≡ mode_later d (decision spec f mode settled arrived v)
  decision_later (Stable c) f settled arrived v = leave_later c (choose spec c v) f
  decision_later (Moving from halting to since) f settled true v = leave_later to (choose spec to v) f
  decision_later (Moving from halting to since) f settled false v = moving_later f from halting to since settled (wanted spec.policy spec from to v)

module _ (spec : Parts) (d : ℕ) (script : ScriptParts) (accepts : Accepts spec) (fits : Fits spec script) where
  opens : env_at spec script 0 ≡ opening_env spec
  opens = same_env _ _ _ _ (sym (bits_all (length spec.procs))) (rw (none_yet 0, none_yet 1, none_yet 2, none_yet 3, none_yet 4, none_yet 5) refl)
    where
      none_yet : (x : ℕ) → factor_at script x 0 ≡ 0
      none_yet x = nothing_at_first spec d script x 0 script.changes 0 (λ i change there. let least = (fits.changes i change there).least in omega (arith, least))

  -- Lemmas on the frames up to frame `d`.

  -- The mode of the state is stable in the start configuration, and `arrived` is `false`.
  record IsQuiet (state : State) : Type 0 where
    mode : state.mode ≡ Stable spec.start
    arrived : state.arrived ≡ false

  stays : (f : ℕ) (v : Env) → v ≡ opening_env spec → leave_for spec.start (choose spec spec.start v) f ≡ Stable spec.start
  stays f v opening =
      let chosen : choose spec spec.start v ≡ spec.start = ap (choose spec spec.start) opening ∙ accepts.starts in
      let same : (spec.start.0 == spec.start.0) ≡ true = grind (arith, nat_tests) in
      rw (chosen, same) refl

  quiet_decides : (f : ℕ) (state : State) (v : Env) → IsQuiet state → v ≡ opening_env spec → mode_decided spec f v state ≡ Stable spec.start
  quiet_decides f state v quiet opening =
      ap (λ (mode : KMode). decision spec f mode (is_settled spec mode (f - 1)) state.arrived v) quiet.mode ∙ stays f v opening

  opening_before : (f : ℕ) → f < d → env_at spec (later_by d script) f ≡ opening_env spec
  opening_before f early = environment_before spec d script fits f early ∙ opens

  quiet_after : (n : ℕ) → n ≤ d → IsQuiet (state_after spec (later_by d script) n)
  quiet_after zero early = record { mode = refl; arrived = refl }
  quiet_after (suc n) early =
      let before = quiet_after n (omega (arith, early)) in
      let decided = quiet_decides n (state_after spec (later_by d script) n) (env_at spec (later_by d script) n) before (opening_before n (omega (arith, early))) in
      record {
        mode = decided;
        arrived = rw decided refl;
      }

  -- Lemmas on the frames from frame `d` on.

  -- The mode of `later` is the mode of `state`, `d` frames later. Both states have the same `arrived`.
  record IsLater (state later : State) : Type 0 where
    mode : later.mode ≡ mode_later d state.mode
    arrived : later.arrived ≡ state.arrived

  settled_before : (n : ℕ) → is_settled spec (mode_later d (state_after spec script n).mode) (d + n - 1) ≡ is_settled spec (state_after spec script n).mode (n - 1)
  settled_before zero = refl
  settled_before (suc n) =
      let next : d + suc n - 1 ≡ d + n = omega arith in
      let back : suc n - 1 ≡ n = omega arith in
      rw (next, back) (settled_later spec d (state_after spec script (suc n)).mode n)

  decided_later : (n : ℕ) → IsLater (state_after spec script n) (state_after spec (later_by d script) (d + n))
      → mode_decided spec (d + n) (env_at spec (later_by d script) (d + n)) (state_after spec (later_by d script) (d + n)) ≡ mode_later d (mode_decided spec n (env_at spec script n) (state_after spec script n))
  decided_later n is =
      let state = state_after spec script n in
      let later = state_after spec (later_by d script) (d + n) in
      ap (λ (mode : KMode). decision spec (d + n) mode (is_settled spec mode (d + n - 1)) later.arrived (env_at spec (later_by d script) (d + n))) is.mode
      ∙ ap (λ (arrived : Bool). decision spec (d + n) (mode_later d state.mode) (is_settled spec (mode_later d state.mode) (d + n - 1)) arrived (env_at spec (later_by d script) (d + n))) is.arrived
      ∙ ap (decision spec (d + n) (mode_later d state.mode) (is_settled spec (mode_later d state.mode) (d + n - 1)) state.arrived) (environment_later spec d script n)
      ∙ ap (λ (settled : Bool). decision spec (d + n) (mode_later d state.mode) settled state.arrived (env_at spec script n)) (settled_before n)
      ∙ decision_later spec d state.mode n (is_settled spec state.mode (n - 1)) state.arrived (env_at spec script n)

  -- The row of frame `d + n` in the later script has the acts of row `n` of the script. Its mode is the mode of row
  -- `n`, `d` frames later.
  record IsRowLater (n : ℕ) : Type 0 where
    mode : (row_at spec (later_by d script) (d + n)).mode ≡ mode_later d (row_at spec script n).mode
    acts : (row_at spec (later_by d script) (d + n)).acts ≡ (row_at spec script n).acts

  row_later : (n : ℕ) → IsLater (state_after spec script n) (state_after spec (later_by d script) (d + n)) → IsRowLater n
  row_later n is =
      let mode = mode_decided spec n (env_at spec script n) (state_after spec script n) in
      let decided = decided_later n is in
      record {
        mode = decided;
        acts = ap (λ (later : KMode). acts_in spec (phase_at spec later (d + n)) (λ p. commits spec (later_by d script) p (d + n))) decided
            ∙ ap (λ phase. acts_in spec phase (λ p. commits spec (later_by d script) p (d + n))) (phase_later spec d mode n)
            ∙ ap (acts_in spec (phase_at spec mode n)) (fun_ext (λ p. commits_later spec d script p n));
      }

  state_later : (n : ℕ) → IsLater (state_after spec script n) (state_after spec (later_by d script) (d + n))
  state_later zero =
      let here : d + 0 ≡ d = omega arith in
      let quiet = quiet_after d (omega arith) in
      rw here (record { mode = quiet.mode; arrived = quiet.arrived })
  state_later (suc n) =
      let next : d + suc n ≡ suc (d + n) = omega arith in
      let row = row_later n (state_later n) in
      rw next (record {
        mode = row.mode;
        arrived =
            ap (λ (mode : KMode). is_settled spec mode (d + n) && runs spec (row_at spec (later_by d script) (d + n)).acts (target mode)) row.mode
            ∙ ap (λ (acts : List Act). is_settled spec (mode_later d (row_at spec script n).mode) (d + n) && runs spec acts (target (mode_later d (row_at spec script n).mode))) row.acts
            ∙ ap (λ (settled : Bool). settled && runs spec (row_at spec script n).acts (target (mode_later d (row_at spec script n).mode))) (settled_later spec d (row_at spec script n).mode n)
            ∙ ap (λ (c : ConfId). is_settled spec (row_at spec script n).mode n && runs spec (row_at spec script n).acts c) (target_later spec d (row_at spec script n).mode);
      })

-- Lemmas on rows that all run one configuration.

run_by_place : (place : Option Place) → is_run_by place (act_after (λ p. true) (task_for Run place)) ≡ true
run_by_place None = refl
run_by_place (Some place) =
    let mode : (place.mode.0 == place.mode.0) ≡ true = grind (arith, nat_tests) in
    let proc : (place.proc.0 == place.proc.0) ≡ true = grind (arith, nat_tests) in
    rw (mode, proc) refl

all_run : (spec : Parts) → IsSpec spec → (c : ConfId) → runs spec (acts_in spec (Running c) (λ p. true)) c ≡ true
all_run spec is c =
    each_all (λ a. is_run_by (place_of spec c a) (act_at (acts_in spec (Running c) (λ p. true)) a)) (length spec.apps)
    (λ a inside.
    let few = is.apps_count.few in
    ap (is_run_by (place_of spec c a)) (eight_at (λ b. act_after (λ p. true) (task_in spec (Running c) b)) a Off (omega (arith, inside, few))) ∙ run_by_place (place_of spec c a))

pub quiet_ended : (spec : Parts) (c : ConfId) (f : ℕ) (rows : List Row) → Each (λ (row : Row). runs spec row.acts c ≡ true) rows → ended_in spec (Steady c) f rows ≡ []
quiet_ended spec c f [] run = refl
quiet_ended spec c f (row ∷ rows) run = rw (run 0 row refl) (quiet_ended spec c (suc f) rows (λ i r there. run (suc i) r there))

pub quiet_reading : (spec : Parts) (c : ConfId) (f : ℕ) (rows : List Row) → Each (λ (row : Row). runs spec row.acts c ≡ true) rows → reading_after spec (Steady c) f rows ≡ Steady c
quiet_reading spec c f [] run = refl
quiet_reading spec c f (row ∷ rows) run = rw (run 0 row refl) (quiet_reading spec c (suc f) rows (λ i r there. run (suc i) r there))

-- Lemmas on rows that are read `d` frames later.

module _ (spec : Parts) (d : ℕ) where
  unfoldable pub reading_later : Reading → Reading
  reading_later (Steady c) = Steady c
  reading_later (Leaving c begin) = Leaving c (d + begin)

  reading_where : (b : Bool) (x y : Reading) → (if b then reading_later x else reading_later y) ≡ reading_later (if b then x else y)
  reading_where true x y = refl
  reading_where false x y = refl

  arrive_later : (c : ConfId) (begin : ℕ) (o : Option ConfId) → arrive c (d + begin) o ≡ reading_later (arrive c begin o)
  unfolding reading_later
  arrive_later c begin None = refl
  arrive_later c begin (Some j) = refl

  read_later : (r : Reading) (f : ℕ) (acts : List Act) → read_row spec (reading_later r) (d + f) acts ≡ reading_later (read_row spec r f acts)
  unfolding reading_later
  read_later (Steady c) f acts = reading_where (runs spec acts c) (Steady c) (Leaving c f)
  read_later (Leaving c begin) f acts = arrive_later c begin (running spec acts)

  arrival_later : (c : ConfId) (begin f : ℕ) (o : Option ConfId) → as_list (arrival c (d + begin) (d + f) o) ≡ map (report_later d) (as_list (arrival c begin f o))
  arrival_later c begin f None = refl
  arrival_later c begin f (Some j) = refl

  report_of_later : (r : Reading) (f : ℕ) (acts : List Act) → as_list (report_of spec (reading_later r) (d + f) acts) ≡ map (report_later d) (as_list (report_of spec r f acts))
  unfolding reading_later
  report_of_later (Steady c) f acts = refl
  report_of_later (Leaving c begin) f acts = arrival_later c begin f (running spec acts)

  pub close_later : (r : Reading) (frames : ℕ) → as_list (close (reading_later r) (d + frames)) ≡ map (report_later d) (as_list (close r frames))
  unfolding reading_later
  close_later (Steady c) frames = refl
  close_later (Leaving c begin) frames = refl

  unfoldable pub acts_of : Row → List Act
  acts_of row = row.acts

  first_acts : List (List Act) → List Act
  first_acts [] = []
  first_acts (acts ∷ all) = acts

  rest_acts : List (List Act) → List (List Act)
  rest_acts [] = []
  rest_acts (acts ∷ all) = all

  pub ended_later : (r : Reading) (f : ℕ) (later rows : List Row) → map acts_of later ≡ map acts_of rows → ended_in spec (reading_later r) (d + f) later ≡ map (report_later d) (ended_in spec r f rows)
  unfolding acts_of first_acts rest_acts
  ended_later r f [] [] same = refl
  ended_later r f [] (row ∷ rows) same = absurd cc
  ended_later r f (row ∷ later) [] same = absurd cc
  ended_later r f (one ∷ later) (row ∷ rows) same =
      let next : suc (d + f) ≡ d + suc f = omega arith in
      ap (λ (acts : List Act). as_list (report_of spec (reading_later r) (d + f) acts) ++ ended_in spec (read_row spec (reading_later r) (d + f) acts) (suc (d + f)) later) (ap first_acts same)
      ∙ ap (λ (before : List Report). before ++ ended_in spec (read_row spec (reading_later r) (d + f) row.acts) (suc (d + f)) later) (report_of_later r f row.acts)
      ∙ ap (λ (reading : Reading). map (report_later d) (as_list (report_of spec r f row.acts)) ++ ended_in spec reading (suc (d + f)) later) (read_later r f row.acts)
      ∙ ap (λ (n : ℕ). map (report_later d) (as_list (report_of spec r f row.acts)) ++ ended_in spec (reading_later (read_row spec r f row.acts)) n later) next
      ∙ ap (λ (rest : List Report). map (report_later d) (as_list (report_of spec r f row.acts)) ++ rest) (ended_later (read_row spec r f row.acts) (suc f) later rows (ap rest_acts same))
      ∙ sym (map-append (report_later d) (as_list (report_of spec r f row.acts)) (ended_in spec (read_row spec r f row.acts) (suc f) rows))

  pub reading_after_later : (r : Reading) (f : ℕ) (later rows : List Row) → map acts_of later ≡ map acts_of rows → reading_after spec (reading_later r) (d + f) later ≡ reading_later (reading_after spec r f rows)
  unfolding acts_of first_acts rest_acts
  reading_after_later r f [] [] same = refl
  reading_after_later r f [] (row ∷ rows) same = absurd cc
  reading_after_later r f (row ∷ later) [] same = absurd cc
  reading_after_later r f (one ∷ later) (row ∷ rows) same =
      let next : suc (d + f) ≡ d + suc f = omega arith in
      ap (λ (acts : List Act). reading_after spec (read_row spec (reading_later r) (d + f) acts) (suc (d + f)) later) (ap first_acts same)
      ∙ ap (λ (reading : Reading). reading_after spec reading (suc (d + f)) later) (read_later r f row.acts)
      ∙ ap (λ (n : ℕ). reading_after spec (reading_later (read_row spec r f row.acts)) n later) next
      ∙ reading_after_later (read_row spec r f row.acts) (suc f) later rows (ap rest_acts same)

-- Lemmas on lists of rows.

pub listed_parts : {A : Type 0} (value : ℕ → A) (d n : ℕ) → listed_below value (d + n) ≡ listed_below value d ++ listed_below (λ k. value (d + k)) n
listed_parts value d zero = let none : d + 0 ≡ d = omega arith in ap (listed_below value) none ∙ sym (append-nil (listed_below value d))
listed_parts value d (suc n) =
    let next : d + suc n ≡ suc (d + n) = omega arith in
    ap (listed_below value) next
    ∙ ap (λ front. front ++ value (d + n) ∷ []) (listed_parts value d n)
    ∙ append_assoc (listed_below value d) (listed_below (λ k. value (d + k)) n) (value (d + n) ∷ [])

pub map_listed : {A B : Type 0} (g : A → B) (value : ℕ → A) (n : ℕ) → map g (listed_below value n) ≡ listed_below (λ k. g (value k)) n
map_listed g value zero = refl
map_listed g value (suc n) = map-append g (listed_below value n) (value n ∷ []) ∙ ap (λ front. front ++ g (value n) ∷ []) (map_listed g value n)

pub each_listed : {A : Type 0} (P : A → Type 0) (value : ℕ → A) (n : ℕ) → ((k : ℕ) → k < n → P (value k)) → Each P (listed_below value n)
each_listed P value n holds i x there = let at = stands_listed value n x (i, there) in subst P at.2 (holds at.0 at.1)

module _ (spec : Parts) (d : ℕ) (script : ScriptParts) (is : IsSpec spec) (accepts : Accepts spec) (fits : Fits spec script) where
  no_early : (p f : ℕ) → f < d → (halts : List HaltAt)
      → list_any (λ (halt : HaltAt). is_halt_in p f halt && nat_le halt.step (words spec)) (map (λ (halt : HaltAt). record { proc = halt.proc; frame = d + halt.frame; step = halt.step }) halts) ≡ false
  no_early p f early [] = refl
  no_early p f early (halt ∷ halts) =
      let other : (d + halt.frame == f) ≡ false = grind (arith, nat_tests, early) in
      rw (other, and-false (halt.proc.0 == p)) (no_early p f early halts)

  commits_before : (p f : ℕ) → f < d → commits spec (later_by d script) p f ≡ true
  commits_before p f early = rw (up_before spec d script p f (omega (arith, early)), no_early p f early script.halts) refl

  runs_before : (f : ℕ) → f < d → runs spec (row_at spec (later_by d script) f).acts spec.start ≡ true
  runs_before f early =
      let decided = quiet_decides spec d script accepts fits f (state_after spec (later_by d script) f) (env_at spec (later_by d script) f)
      (quiet_after spec d script accepts fits f (omega (arith, early))) (opening_before spec d script accepts fits f early) in
      ap (λ (mode : KMode). runs spec (acts_in spec (phase_at spec mode f) (λ p. commits spec (later_by d script) p f)) spec.start) decided
      ∙ ap (λ committing. runs spec (acts_in spec (Running spec.start) committing) spec.start) (fun_ext (λ p. commits_before p f early))
      ∙ all_run spec is spec.start

  front : List Row
  front = listed_below (row_at spec (later_by d script)) d

  back : List Row
  back = listed_below (λ f. row_at spec (later_by d script) (d + f)) script.frames

  parts : rows_of spec (later_by d script) ≡ front ++ back
  unfolding front back
  parts = listed_parts (row_at spec (later_by d script)) d script.frames

  quiet_front : Each (λ (row : Row). runs spec row.acts spec.start ≡ true) front
  unfolding front
  quiet_front = each_listed (λ (row : Row). runs spec row.acts spec.start ≡ true) (row_at spec (later_by d script)) d runs_before

  same_acts : map (acts_of spec d) back ≡ map (acts_of spec d) (rows_of spec script)
  unfolding back acts_of
  same_acts =
      map_listed (acts_of spec d) (λ f. row_at spec (later_by d script) (d + f)) script.frames
      ∙ ap (λ acts. listed_below acts script.frames) (fun_ext (λ f. (row_later spec d script accepts fits f (state_later spec d script accepts fits f)).acts))
      ∙ sym (map_listed (acts_of spec d) (row_at spec script) script.frames)

  front_length : length front ≡ d
  unfolding front
  front_length = length_listed (row_at spec (later_by d script)) d

  begun : 0 + length front ≡ d + 0
  begun = let n = front_length in omega (arith, n)

  ended_same : ended spec (rows_of spec (later_by d script)) ≡ map (report_later d) (ended spec (rows_of spec script))
  unfolding reading_later
  ended_same =
      ap (ended spec) parts
      ∙ ended_append spec (Steady spec.start) 0 front back
      ∙ ap (λ (before : List Report). before ++ ended_in spec (reading_after spec (Steady spec.start) 0 front) (0 + length front) back) (quiet_ended spec spec.start 0 front quiet_front)
      ∙ ap (λ (reading : Reading). ended_in spec reading (0 + length front) back) (quiet_reading spec spec.start 0 front quiet_front)
      ∙ ap (λ (n : ℕ). ended_in spec (Steady spec.start) n back) begun
      ∙ ended_later spec d (Steady spec.start) 0 back (rows_of spec script) same_acts

  reading_same : reading_of spec (rows_of spec (later_by d script)) ≡ reading_later spec d (reading_of spec (rows_of spec script))
  unfolding reading_later
  reading_same =
      ap (reading_of spec) parts
      ∙ reading_append spec (Steady spec.start) 0 front back
      ∙ ap (λ (reading : Reading). reading_after spec reading (0 + length front) back) (quiet_reading spec spec.start 0 front quiet_front)
      ∙ ap (λ (n : ℕ). reading_after spec (Steady spec.start) n back) begun
      ∙ reading_after_later spec d (Steady spec.start) 0 back (rows_of spec script) same_acts

  lengths : length (rows_of spec (later_by d script)) ≡ d + length (rows_of spec script)
  lengths =
      let later = length_listed (row_at spec (later_by d script)) (d + script.frames) in
      let here = length_listed (row_at spec script) script.frames in
      omega (arith, later, here)

  reports_same : reports_of spec (later_by d script) ≡ map (report_later d) (reports_of spec script)
  reports_same =
      ap (λ (before : List Report). before ++ as_list (close (reading_of spec (rows_of spec (later_by d script))) (length (rows_of spec (later_by d script))))) ended_same
      ∙ ap (λ (reading : Reading). map (report_later d) (ended spec (rows_of spec script)) ++ as_list (close reading (length (rows_of spec (later_by d script))))) reading_same
      ∙ ap (λ (n : ℕ). map (report_later d) (ended spec (rows_of spec script)) ++ as_list (close (reading_later spec d (reading_of spec (rows_of spec script))) n)) lengths
      ∙ ap (λ (rest : List Report). map (report_later d) (ended spec (rows_of spec script)) ++ rest) (close_later spec d (reading_of spec (rows_of spec script)) (length (rows_of spec script)))
      ∙ sym (map-append (report_later d) (ended spec (rows_of spec script)) (as_list (close (reading_of spec (rows_of spec script)) (length (rows_of spec script)))))

pub later_scripts_fly_the_same : LaterScriptsFlyTheSame
later_scripts_fly_the_same spec d script is accepts fits = record {
  acts = λ f. (row_later spec d script accepts fits f (state_later spec d script accepts fits f)).acts;
  modes = λ f. (row_later spec d script accepts fits f (state_later spec d script accepts fits f)).mode;
  reports = reports_same spec d script is accepts fits;
}
