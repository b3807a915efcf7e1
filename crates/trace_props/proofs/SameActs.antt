-- The acts in the rows of a script are the acts of its course.
use Rattle.std.proofs.Common.{◌≡◌, ℕ, zero, suc, ◌-◌, ◌<◌, Bool, true, false, refl, arith, ap, sym, ◌∙◌, length}
use Rattle.std.specs.Prelude.{Option, Some, None, nat_lt, if◌then◌else◌}
use Rattle.scram_types.specs.declared.ids.ConfId.{ConfId}
use Rattle.scram_types.specs.declared.orders.Act as told_acts
use Rattle.scram_types.specs.declared.orders.Act.TheVariants as act
use Rattle.scram_types.specs.declared.orders.KMode.{KMode}
use Rattle.scram_types.specs.declared.orders.KMode.TheVariants as kmode
use Rattle.scram_types.specs.declared.orders.Order as told_orders
use Rattle.scram_types.specs.declared.orders.Order.TheVariants as order
use Rattle.scram_types.specs.declared.specification.Place.{Place}
use Rattle.scram_types.specs.Scripts.{ScriptParts}
use Rattle.scram_types.specs.Specification.{IsSpec, Parts}
use Rattle.scram_types.specs.Lookups.{place_of, conf_id}
use Rattle.scram_types.specs.Searches.{all_below}
use Rattle.scram_types.specs.Eights.{eight}
use Rattle.dep_order.specs.Timetables.{halt_offset, halt_time, halting_time, init_offset, init_time, initialising_time, prepare_time, preparing_time}
use Rattle.fault_script.specs.Times.{commits}
use Rattle.frame_model.specs.declared.phases.Phase as told_phases
use Rattle.frame_model.specs.declared.phases.Phase.TheVariants as told
use Rattle.frame_model.specs.Flights.{decided, row_at}
use Rattle.frame_model.specs.Phases as phases
use Rattle.frame_model.specs.Runs.{act_at, is_run_by}
use Rattle.frame_model.specs.States.{act_after, act_of_order}
use Rattle.frame_model.specs.Tasks as tasks
use Rattle.trace_props.proofs.CourseRows.{CoursePhase, CourseOrder, CourseAct, CourseAct.Ran, CourseAct.Halted, CourseAct.Held, CourseAct.Prepared, CourseAct.Initialised, CourseAct.WasOff, CourseAct.Lost, course_after_halting, course_phase, course_running_order, course_halting_order, course_preparing_order, course_initialising_order, course_order_in, course_act_of, course_fits_place, course_runs, course_acts_at}
use Rattle.trace_props.proofs.Products.{build_of, course_of, course_mode_of, course_phase_of, plan_of, runs_in_row}
use Rattle.trace_props.proofs.SameModes.{same_mode}

-- The act in a row that corresponds to an act of a course.
abbrev pub shown : CourseAct → told_acts.Act
shown (Ran p) = act.Ran p.mode p.proc
shown (Halted k n p) = act.Halting k n p.proc
shown Held = act.Held
shown (Prepared k n p) = act.Preparing k n p.proc
shown (Initialised k n p) = act.Initialising k n p.proc
shown WasOff = act.Off
shown Lost = act.Lost

fits_same : (o : Option Place) (x : CourseAct) → is_run_by o (shown x) ≡ course_fits_place o x
fits_same None (Ran p) = refl
fits_same None (Halted k n p) = refl
fits_same None Held = refl
fits_same None (Prepared k n p) = refl
fits_same None (Initialised k n p) = refl
fits_same None WasOff = refl
fits_same None Lost = refl
fits_same (Some q) (Ran p) = refl
fits_same (Some q) (Halted k n p) = refl
fits_same (Some q) Held = refl
fits_same (Some q) (Prepared k n p) = refl
fits_same (Some q) (Initialised k n p) = refl
fits_same (Some q) WasOff = refl
fits_same (Some q) Lost = refl

shown_if : (b : Bool) (x y : CourseAct) → shown (if b then x else y) ≡ (if b then shown x else shown y)
shown_if true x y = refl
shown_if false x y = refl

abbrev made : Bool → told_orders.Order → Place → told_acts.Act
made committed o p = if committed then act_of_order o p.mode p.proc else act.Lost

-- If three orders of a course correspond to three orders of the kernel, then the orders that two tests pick from them
-- correspond too.
two_tests : (commits : ℕ → Bool) (a b : Bool) (p : Place) (x y z : CourseOrder) (q r s : told_orders.Order)
    → shown (course_act_of commits x) ≡ made (commits p.proc.0) q p → shown (course_act_of commits y) ≡ made (commits p.proc.0) r p → shown (course_act_of commits z) ≡ made (commits p.proc.0) s p
    → shown (course_act_of commits (if a then x else (if b then y else z))) ≡ made (commits p.proc.0) (if a then q else (if b then r else s)) p
two_tests commits true b p x y z q r s e f g = e
two_tests commits false true p x y z q r s e f g = f
two_tests commits false false p x y z q r s e f g = g

one_test : (commits : ℕ → Bool) (a : Bool) (p : Place) (x y : CourseOrder) (q r : told_orders.Order)
    → shown (course_act_of commits x) ≡ made (commits p.proc.0) q p → shown (course_act_of commits y) ≡ made (commits p.proc.0) r p
    → shown (course_act_of commits (if a then x else y)) ≡ made (commits p.proc.0) (if a then q else r) p
one_test commits true p x y q r e f = e
one_test commits false p x y q r e f = f

running_same : (commits : ℕ → Bool) (o : Option Place) → shown (course_act_of commits (course_running_order o)) ≡ act_after commits (tasks.task_for order.Run o)
running_same commits None = refl
running_same commits (Some p) = shown_if (commits p.proc.0) (Ran p) Lost

halting_same : (commits : ℕ → Bool) (offset time age : ℕ) (o : Option Place) → shown (course_act_of commits (course_halting_order offset time age o)) ≡ act_after commits (tasks.task_for (tasks.halting_order offset time age) o)
halting_same commits offset time age None = refl
halting_same commits offset time age (Some p) =
    two_tests commits (nat_lt age offset) (nat_lt (age - offset) time) p _ _ _ _ _ _
    (shown_if (commits p.proc.0) (Ran p) Lost) (shown_if (commits p.proc.0) (Halted (age - offset) time p) Lost) (shown_if (commits p.proc.0) Held Lost)

preparing_same : (commits : ℕ → Bool) (time age : ℕ) (o : Option Place) → shown (course_act_of commits (course_preparing_order time age o)) ≡ act_after commits (tasks.task_for (tasks.preparing_order time age) o)
preparing_same commits time age None = refl
preparing_same commits time age (Some p) =
    one_test commits (nat_lt age time) p _ _ _ _ (shown_if (commits p.proc.0) (Prepared age time p) Lost) (shown_if (commits p.proc.0) Held Lost)

init_same : (commits : ℕ → Bool) (offset time age : ℕ) (o : Option Place) → shown (course_act_of commits (course_initialising_order offset time age o)) ≡ act_after commits (tasks.task_for (tasks.initialising_order offset time age) o)
init_same commits offset time age None = refl
init_same commits offset time age (Some p) =
    two_tests commits (nat_lt age offset) (nat_lt (age - offset) time) p _ _ _ _ _ _
    (shown_if (commits p.proc.0) Held Lost) (shown_if (commits p.proc.0) (Initialised (age - offset) time p) Lost) (shown_if (commits p.proc.0) Held Lost)

act_same : (spec : Parts) (commits : ℕ → Bool) (ph : told_phases.Phase) (a : ℕ) → shown (course_act_of commits (course_order_in (build_of spec) (course_phase_of ph) a)) ≡ act_after commits (tasks.task_in spec ph a)
act_same spec commits (told.Running c) a = running_same commits (place_of spec c a)
act_same spec commits (told.Halting c age) a = halting_same commits (halt_offset spec c a) (halt_time spec c a) age (place_of spec c a)
act_same spec commits (told.Preparing c age) a = preparing_same commits (prepare_time spec c a) age (place_of spec c a)
act_same spec commits (told.Initialising c age) a = init_same commits (init_offset spec c a) (init_time spec c a) age (place_of spec c a)

-- Lemmas that the phases of the kernel are the phases of a course.
three_phases : (a b : Bool) (x y z : told_phases.Phase) → course_phase_of (if a then x else (if b then y else z)) ≡ (if a then course_phase_of x else (if b then course_phase_of y else course_phase_of z))
three_phases true b x y z = refl
three_phases false true x y z = refl
three_phases false false x y z = refl

after_same : (spec : Parts) (to : ConfId) (age : ℕ) → course_phase_of (phases.after_halting spec to age) ≡ course_after_halting (plan_of spec) to.0 age
after_same spec to age = three_phases (nat_lt age (preparing_time spec to)) (nat_lt (age - preparing_time spec to) (initialising_time spec to)) _ _ _

phase_if : (b : Bool) (x y : told_phases.Phase) (p q : CoursePhase) → course_phase_of x ≡ p → course_phase_of y ≡ q → course_phase_of (if b then x else y) ≡ (if b then p else q)
phase_if true x y p q e k = e
phase_if false x y p q e k = k

pub phase_same : (spec : Parts) (m : KMode) (f : ℕ) → course_phase_of (phases.phase_at spec m f) ≡ course_phase (plan_of spec) (course_mode_of m) f
phase_same spec (kmode.Stable c) f = refl
phase_same spec (kmode.Moving from None to since) f = after_same spec to (f - since)
phase_same spec (kmode.Moving from (Some h) to since) f =
    phase_if (nat_lt (f - since) (halting_time spec h)) (told.Halting h (f - since)) (phases.after_halting spec to (f - since - halting_time spec h)) _ _
    refl (after_same spec to (f - since - halting_time spec h))

pub eight_at : (value : ℕ → told_acts.Act) (a : ℕ) → a < 8 → act_at (eight value) a ≡ value a
eight_at value zero h = refl
eight_at value (suc zero) h = refl
eight_at value (suc (suc zero)) h = refl
eight_at value (suc (suc (suc zero))) h = refl
eight_at value (suc (suc (suc (suc zero)))) h = refl
eight_at value (suc (suc (suc (suc (suc zero))))) h = refl
eight_at value (suc (suc (suc (suc (suc (suc zero)))))) h = refl
eight_at value (suc (suc (suc (suc (suc (suc (suc zero))))))) h = refl
eight_at value (suc (suc (suc (suc (suc (suc (suc (suc a)))))))) h = absurd (omega arith)

-- Whether processor `p` commits in frame `f`.
abbrev pub committed : Parts → ScriptParts → ℕ → ℕ → Bool
committed spec script f p = commits spec script p f

-- The act of each application in a row corresponds to the act of the application in the course.
pub row_act : (spec : Parts) (script : ScriptParts) (f a : ℕ) → a < 8
    → act_at (row_at spec script f).acts a ≡ shown (course_acts_at (plan_of spec) (build_of spec) (course_of spec script) (committed spec script) f a)
row_act spec script f a below =
    eight_at (λ b. act_after (committed spec script f) (tasks.task_in spec (phases.phase_at spec (decided spec script f) f) b)) a below
    ∙ sym (act_same spec (committed spec script f) (phases.phase_at spec (decided spec script f) f) a)
    ∙ ap (λ ph. shown (course_act_of (committed spec script f) (course_order_in (build_of spec) ph a)))
    (phase_same spec (decided spec script f) f ∙ ap (λ m. course_phase (plan_of spec) m f) (same_mode spec script f))

pub all_below_same : (p q : ℕ → Bool) (n : ℕ) → ((a : ℕ) → a < n → p a ≡ q a) → all_below p n ≡ all_below q n
all_below_same p q zero h = refl
all_below_same p q (suc n) h = let here = h n (omega arith) in let before = all_below_same p q n (λ a less. h a (omega arith)) in rw (here, before) refl

pub runs_same : (spec : Parts) → IsSpec spec → (script : ScriptParts) (f j : ℕ)
    → runs_in_row spec script f j ≡ course_runs (build_of spec) (course_acts_at (plan_of spec) (build_of spec) (course_of spec script) (committed spec script) f) j
runs_same spec sound script f j = all_below_same _ _ (length spec.apps) (λ a below.
    ap (is_run_by (place_of spec (conf_id j) a)) (row_act spec script f a (let few = sound.apps_count.few in omega arith)) ∙ fits_same (place_of spec (conf_id j) a) _)
