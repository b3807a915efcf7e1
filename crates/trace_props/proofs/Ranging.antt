-- Areas are within the ranges of the acts that wrote them: the laws of the kinds imply the law of areas.
use Rattle.std.proofs.Common.{◌≡◌, ℕ, zero, suc, ◌+◌, ◌-◌, ◌<◌, Bool, true, false, refl, arith, ap, sym, ◌∙◌, subst, List}
use Rattle.std.specs.Prelude.{Option, Some, None, ℤ, pos, ◌≤ℤ◌, int_le, slice_get, slice_index_or, nat_lt, ◌&&◌, if◌then◌else◌}
use Rattle.std.specs.Option.{option_map_or}
use Rattle.std.proofs.lemmas.Int.{ints}
use Rattle.scram_types.specs.declared.rows.Env.{Env}
use Rattle.scram_types.specs.declared.orders.Order as told_orders
use Rattle.scram_types.specs.declared.orders.Order.TheVariants as order
use Rattle.scram_types.specs.declared.specification.AppSpec.{AppSpec}
use Rattle.scram_types.specs.declared.specification.Place.{Place}
use Rattle.scram_types.specs.Numbers.{word}
use Rattle.scram_types.specs.Scripts.{ScriptParts}
use Rattle.scram_types.specs.Specification.{IsSpec, Parts}
use Rattle.scram_types.proofs.Booleans.{and_left, and_right, and_true}
use Rattle.scram_types.proofs.Integers.{int_is, int_of}
use Rattle.scram_types.specs.Lookups.{place_of, kind_of_app}
use Rattle.scram_types.specs.Searches.{all_below}
use Rattle.scram_types.specs.Eights.{eight}
use Rattle.scram_types.proofs.Searches.{each_all}
use Rattle.dep_order.specs.Timetables.{halt_offset, halt_time, init_offset, init_time, prepare_time}
use Rattle.app_model.specs.Areas.{AllTablesNarrow, AreaLies, Between, LawLiesAfterInit, LawLiesDuring, StartLiesAfterInit}
use Rattle.kind_table.specs.Bounds.{after_init, during}
use Rattle.app_model.specs.Starts.{start_of}
use Rattle.fault_script.specs.Environments.{env_at}
use Rattle.frame_model.specs.declared.phases.Phase as told_phases
use Rattle.frame_model.specs.declared.phases.Phase.TheVariants as told
use Rattle.frame_model.specs.declared.tasks.Task.{Task}
use Rattle.frame_model.specs.Flights.{decided, state_after}
use Rattle.frame_model.specs.Phases.{phase_at}
use Rattle.frame_model.specs.States.{State, area_after, area_at, law_of, seen_by, start_area_at, start_area_of, zeros}
use Rattle.frame_model.specs.Tasks as tasks
use Rattle.trace_props.proofs.Courses.{course_mode_at}
use Rattle.trace_props.proofs.CourseRows.{CourseOrder, CourseOrder.Run, CourseOrder.Halt, CourseOrder.Hold, CourseOrder.Prepare, CourseOrder.Init, CourseOrder.Off, CourseAct.Ran, CourseAct.Halted, CourseAct.Held, CourseAct.Prepared, CourseAct.Initialised, CourseAct.Lost, course_phase, course_running_order, course_halting_order, course_preparing_order, course_initialising_order, course_order_in, course_act_of, course_acts_at}
use Rattle.trace_props.specs.Judging.{lies_in}
use Rattle.trace_props.proofs.CourseAreas.{Written, Written.DidRun, Written.DidHalt, Written.DidPrepare, Written.DidInit, Written.Zeros, opening_written, AreaLaws, IsAreaFilled, AreAreasFilled}
use Rattle.trace_props.proofs.Builds.{all_at}
use Rattle.trace_props.proofs.Products.{build_of, course_of, course_phase_of, plan_of}
use Rattle.trace_props.proofs.SameModes.{same_mode}
use Rattle.trace_props.proofs.SameActs.{committed, phase_same}

pub int_trans : (a b c : ℤ) → a ≤ℤ b → b ≤ℤ c → a ≤ℤ c
int_trans a b c h k = omega (arith, ints)

-- If `x` is between two ends, then the test that it lies in their interval returns `true`.
pub lies_is : (low high x : ℤ) → Between (low, high) x → lies_in low high x ≡ true
lies_is low high x h = and_true (int_le low x) (int_le x high) (int_is low x h.least) (int_is x high h.greatest)

pub lies_of : (low high x : ℤ) → lies_in low high x ≡ true → Between (low, high) x
lies_of low high x h = record { least = int_of low x (and_left (int_le low x) _ h); greatest = int_of x high (and_right (int_le low x) _ h) }

-- An interval that holds a range holds each number within the range.
pub lies_held : (low high least most x : ℤ) → (int_le low least && int_le most high) ≡ true → Between (least, most) x → lies_in low high x ≡ true
lies_held low high least most x h between =
    let l = int_of low least (and_left (int_le low least) _ h) in
    let m = int_of most high (and_right (int_le low least) _ h) in
    lies_is low high x (record { least = int_trans low least x l between.least; greatest = int_trans x most high between.greatest m })

-- Whether each word of an area lies in its range.
abbrev pub area_test : (ℕ → ℤ × ℤ) → List ℤ → Bool
area_test range area = all_below (λ i. lies_in (range i).0 (range i).1 (word area i)) 8

pub area_is : (range : ℕ → ℤ × ℤ) (area : List ℤ) → AreaLies range area → area_test range area ≡ true
area_is range area h = each_all (λ i. lies_in (range i).0 (range i).1 (word area i)) 8 (λ i below. lies_is (range i).0 (range i).1 (word area i) (h i below))

pub area_of : (range : ℕ → ℤ × ℤ) (area : List ℤ) → area_test range area ≡ true → (i : ℕ) → i < 8 → Between (range i) (word area i)
area_of range area h i below = lies_of (range i).0 (range i).1 (word area i) (all_at (λ i. lies_in (range i).0 (range i).1 (word area i)) 8 h i below)

-- The range of each word of an area, given the act that wrote the area last.
abbrev pub range_of : ℕ → Written → ℕ → ℤ × ℤ
range_of kind (DidRun p) = during kind 1 p.mode.0
range_of kind (DidHalt p) = during kind 2 p.mode.0
range_of kind (DidPrepare p) = during kind 3 p.mode.0
range_of kind (DidInit p) = during kind 4 p.mode.0
range_of kind Zeros = λ i. (pos 0, pos 0)

abbrev pub laws_of : Parts → AreaLaws
laws_of spec = record {
  lies = λ a w v. area_test (range_of (kind_of_app spec a) w) v;
  initialised = λ a p v. area_test (after_init (kind_of_app spec a) p.mode.0) v;
}

word_zero : (i : ℕ) → i < 8 → word zeros i ≡ pos 0
unfolding word
word_zero zero h = refl
word_zero (suc zero) h = refl
word_zero (suc (suc zero)) h = refl
word_zero (suc (suc (suc zero))) h = refl
word_zero (suc (suc (suc (suc zero)))) h = refl
word_zero (suc (suc (suc (suc (suc zero))))) h = refl
word_zero (suc (suc (suc (suc (suc (suc zero)))))) h = refl
word_zero (suc (suc (suc (suc (suc (suc (suc zero))))))) h = refl
word_zero (suc (suc (suc (suc (suc (suc (suc (suc i)))))))) h = absurd (omega arith)

zeros_lie : area_test (λ i. (pos 0, pos 0)) zeros ≡ true
zeros_lie = area_is (λ i. (pos 0, pos 0)) zeros (λ i below. rw (word_zero i below) (record { least = omega (arith, ints); greatest = omega (arith, ints) }))

kind_by : (spec : Parts) (a : ℕ) → IsSpec spec → (o : Option AppSpec) → slice_get spec.apps a ≡ o → option_map_or (λ (app : AppSpec). app.kind.0) o 0 < 6
kind_by spec a sound None e = omega arith
kind_by spec a sound (Some app) e = (sound.apps a app e).kind

pub kind_known : (spec : Parts) → IsSpec spec → (a : ℕ) → kind_of_app spec a < 6
kind_known spec sound a = kind_by spec a sound (slice_get spec.apps a) refl

pub eight_or : {A : Type 0} (value : ℕ → A) (d : A) (a : ℕ) → a < 8 → slice_index_or (eight value) a d ≡ value a
eight_or value d zero h = refl
eight_or value d (suc zero) h = refl
eight_or value d (suc (suc zero)) h = refl
eight_or value d (suc (suc (suc zero))) h = refl
eight_or value d (suc (suc (suc (suc zero)))) h = refl
eight_or value d (suc (suc (suc (suc (suc zero))))) h = refl
eight_or value d (suc (suc (suc (suc (suc (suc zero)))))) h = refl
eight_or value d (suc (suc (suc (suc (suc (suc (suc zero))))))) h = refl
eight_or value d (suc (suc (suc (suc (suc (suc (suc (suc a)))))))) h = absurd (omega arith)

-- The kernel's task for an order of a course.
abbrev pub task_of_order : CourseOrder → Task
task_of_order (Run p) = tasks.task_at order.Run p
task_of_order (Halt k n p) = tasks.task_at (order.Halt k n) p
task_of_order (Hold p) = tasks.task_at order.Hold p
task_of_order (Prepare k n p) = tasks.task_at (order.Prepare k n) p
task_of_order (Init k n p) = tasks.task_at (order.Init k n) p
task_of_order Off = tasks.off_task

two_tasks : (a b : Bool) (p : Place) (x y z : CourseOrder) (q r s : told_orders.Order) → task_of_order x ≡ tasks.task_at q p → task_of_order y ≡ tasks.task_at r p → task_of_order z ≡ tasks.task_at s p
    → task_of_order (if a then x else (if b then y else z)) ≡ tasks.task_at (if a then q else (if b then r else s)) p
two_tasks true b p x y z q r s e f g = e
two_tasks false true p x y z q r s e f g = f
two_tasks false false p x y z q r s e f g = g

running_task : (o : Option Place) → task_of_order (course_running_order o) ≡ tasks.task_for order.Run o
running_task None = refl
running_task (Some p) = refl

halting_task : (offset time age : ℕ) (o : Option Place) → task_of_order (course_halting_order offset time age o) ≡ tasks.task_for (tasks.halting_order offset time age) o
halting_task offset time age None = refl
halting_task offset time age (Some p) =
    two_tasks (nat_lt age offset) (nat_lt (age - offset) time) p (Run p) (Halt (age - offset) time p) (Hold p) order.Run (order.Halt (age - offset) time) order.Hold refl refl refl

preparing_task : (time age : ℕ) (o : Option Place) → task_of_order (course_preparing_order time age o) ≡ tasks.task_for (tasks.preparing_order time age) o
preparing_task time age None = refl
preparing_task time age (Some p) =
    two_tasks (nat_lt age time) true p (Prepare age time p) (Hold p) (Hold p) (order.Prepare age time) order.Hold order.Hold refl refl refl

init_task : (offset time age : ℕ) (o : Option Place) → task_of_order (course_initialising_order offset time age o) ≡ tasks.task_for (tasks.initialising_order offset time age) o
init_task offset time age None = refl
init_task offset time age (Some p) =
    two_tasks (nat_lt age offset) (nat_lt (age - offset) time) p (Hold p) (Init (age - offset) time p) (Hold p) order.Hold (order.Init (age - offset) time) order.Hold refl refl refl

task_same : (spec : Parts) (ph : told_phases.Phase) (a : ℕ) → task_of_order (course_order_in (build_of spec) (course_phase_of ph) a) ≡ tasks.task_in spec ph a
task_same spec (told.Running c) a = running_task (place_of spec c a)
task_same spec (told.Halting c age) a = halting_task (halt_offset spec c a) (halt_time spec c a) age (place_of spec c a)
task_same spec (told.Preparing c age) a = preparing_task (prepare_time spec c a) age (place_of spec c a)
task_same spec (told.Initialising c age) a = init_task (init_offset spec c a) (init_time spec c a) age (place_of spec c a)

-- The laws of the kinds keep areas in their ranges: during each act, after an initialisation and at the start. All
-- tables are narrow.
pub record KindsLie : Type 0 where
  pub during : LawLiesDuring
  pub initialised : LawLiesAfterInit
  pub starts : StartLiesAfterInit
  pub narrow : AllTablesNarrow

module _ (spec : Parts) (sound : IsSpec spec) (kinds : KindsLie) where
  widened : (a mode : ℕ) (area : List ℤ) → AreaLies (after_init (kind_of_app spec a) mode) area → AreaLies (during (kind_of_app spec a) 4 mode) area
  widened a mode area h i below =
      let inside = (kinds.narrow (kind_of_app spec a) mode i (kind_known spec sound a) below).init in
      let at = h i below in
      record { least = int_trans _ _ _ inside.least at.least; greatest = int_trans _ _ _ at.greatest inside.greatest }

  opens_at : (a : ℕ) (o : Option Place) → (laws_of spec).lies a (opening_written o) (start_area_at spec a o) ≡ true
  opens_at a None = zeros_lie
  opens_at a (Some p) =
      area_is (during (kind_of_app spec a) 4 p.mode.0) (start_of (kind_of_app spec a))
      (widened a p.mode.0 (start_of (kind_of_app spec a)) (kinds.starts (kind_of_app spec a) p.mode.0 (kind_known spec sound a)))

  ran_by : (a : ℕ) (p : Place) (b : Bool) (old new : List ℤ) → (laws_of spec).lies a (DidRun p) new ≡ true → IsAreaFilled (laws_of spec) a (if b then Ran p else Lost) old (if b then new else old)
  ran_by a p true old new h = h
  ran_by a p false old new h = refl

  halted_by : (a k n : ℕ) (p : Place) (b : Bool) (old new : List ℤ) → (laws_of spec).lies a (DidHalt p) new ≡ true → IsAreaFilled (laws_of spec) a (if b then Halted k n p else Lost) old (if b then new else old)
  halted_by a k n p true old new h = h
  halted_by a k n p false old new h = refl

  held_by : (a : ℕ) (b : Bool) (old : List ℤ) → IsAreaFilled (laws_of spec) a (if b then Held else Lost) old (if b then old else old)
  held_by a true old = refl
  held_by a false old = refl

  prepared_by : (a k n : ℕ) (p : Place) (b : Bool) (old new : List ℤ) → (laws_of spec).lies a (DidPrepare p) new ≡ true → IsAreaFilled (laws_of spec) a (if b then Prepared k n p else Lost) old (if b then new else old)
  prepared_by a k n p true old new h = h
  prepared_by a k n p false old new h = refl

  init_by : (a k n : ℕ) (p : Place) (b : Bool) (old new : List ℤ) → (laws_of spec).lies a (DidInit p) new ≡ true → (suc k ≡ n → (laws_of spec).initialised a p new ≡ true)
      → IsAreaFilled (laws_of spec) a (if b then Initialised k n p else Lost) old (if b then new else old)
  init_by a k n p true old new h last = (h, last)
  init_by a k n p false old new h last = refl

  -- The area after an order is filled as the order's act requires.
  filled_order : (v : Env) (state : State) (commits : ℕ → Bool) (a : ℕ) (x : CourseOrder) → IsAreaFilled (laws_of spec) a (course_act_of commits x) (area_at state.areas a) (area_after spec v commits state (task_of_order x) a)
  filled_order v state commits a (Run p) =
      ran_by a p (commits p.proc.0) (area_at state.areas a) (law_of spec v state (tasks.task_at order.Run p) a)
      (area_is (during (kind_of_app spec a) 1 p.mode.0) _ (kinds.during (kind_of_app spec a) 1 order.Run (seen_by spec v state p.mode a) (kind_known spec sound a) refl))
  filled_order v state commits a (Halt k n p) =
      halted_by a k n p (commits p.proc.0) (area_at state.areas a) (law_of spec v state (tasks.task_at (order.Halt k n) p) a)
      (area_is (during (kind_of_app spec a) 2 p.mode.0) _ (kinds.during (kind_of_app spec a) 2 (order.Halt k n) (seen_by spec v state p.mode a) (kind_known spec sound a) refl))
  filled_order v state commits a (Hold p) = held_by a (commits p.proc.0) (area_at state.areas a)
  filled_order v state commits a (Prepare k n p) =
      prepared_by a k n p (commits p.proc.0) (area_at state.areas a) (law_of spec v state (tasks.task_at (order.Prepare k n) p) a)
      (area_is (during (kind_of_app spec a) 3 p.mode.0) _ (kinds.during (kind_of_app spec a) 3 (order.Prepare k n) (seen_by spec v state p.mode a) (kind_known spec sound a) refl))
  filled_order v state commits a (Init k n p) =
      init_by a k n p (commits p.proc.0) (area_at state.areas a) (law_of spec v state (tasks.task_at (order.Init k n) p) a)
      (area_is (during (kind_of_app spec a) 4 p.mode.0) _ (kinds.during (kind_of_app spec a) 4 (order.Init k n) (seen_by spec v state p.mode a) (kind_known spec sound a) refl))
      (λ last. area_is (after_init (kind_of_app spec a) p.mode.0) _
      (kinds.initialised (kind_of_app spec a) k n (seen_by spec v state p.mode a) (kind_known spec sound a) (let more : k + 1 ≡ n = omega arith in more)))
  filled_order v state commits a Off = zeros_lie

  module _ (script : ScriptParts) where
    -- The area of application `a` after `f` frames.
    abbrev pub area : ℕ → ℕ → List ℤ
    area f a = area_at (state_after spec script f).areas a

    fills : (f a : ℕ) → a < 8 → IsAreaFilled (laws_of spec) a (course_acts_at (plan_of spec) (build_of spec) (course_of spec script) (committed spec script) f a) (area f a) (area (suc f) a)
    fills f a below =
        let is : course_phase (plan_of spec) (course_mode_at (plan_of spec) (course_of spec script) f) f ≡ course_phase_of (phase_at spec (decided spec script f) f) =
        sym (phase_same spec (decided spec script f) f ∙ ap (λ m. course_phase (plan_of spec) m f) (same_mode spec script f)) in
        subst (λ new. IsAreaFilled (laws_of spec) a (course_acts_at (plan_of spec) (build_of spec) (course_of spec script) (committed spec script) f a) (area f a) new)
        (ap (λ t. area_after spec (env_at spec script f) (committed spec script f) (state_after spec script f) t a)
        (ap (λ ph. task_of_order (course_order_in (build_of spec) ph a)) is ∙ task_same spec (phase_at spec (decided spec script f) f) a)
        ∙ sym (eight_or (λ b. area_after spec (env_at spec script f) (committed spec script f) (state_after spec script f) (tasks.task_in spec (phase_at spec (decided spec script f) f) b) b) zeros a below))
        (filled_order (env_at spec script f) (state_after spec script f) (committed spec script f) a (course_order_in (build_of spec) (course_phase (plan_of spec) (course_mode_at (plan_of spec) (course_of spec script) f) f) a))

    pub filled_of : AreAreasFilled (plan_of spec) (build_of spec) (course_of spec script) (committed spec script) (laws_of spec) area
    filled_of = record {
      opens = λ a known. rw (eight_or (start_area_of spec) zeros a (let few = sound.apps_count.few in omega arith)) (opens_at a (place_of spec spec.start a));
      writes = λ f a inside known. fills f a (let few = sound.apps_count.few in omega arith);
    }
