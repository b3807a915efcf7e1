-- The modes that are decided for a script are the modes of its course.
use Rattle.std.proofs.Common.{◌≡◌, ℕ, zero, suc, ◌-◌, Bool, true, false, refl, arith, ap, sym, ◌∙◌}
use Rattle.std.specs.Prelude.{Option, Some, None, nat_lt, ◌&&◌, ◌==◌, if◌then◌else◌}
use Rattle.scram_types.specs.declared.ids.ConfId.{ConfId}
use Rattle.scram_types.specs.declared.rows.Env.{Env}
use Rattle.scram_types.specs.declared.orders.KMode.{KMode}
use Rattle.scram_types.specs.declared.orders.KMode.TheVariants as kmode
use Rattle.scram_types.specs.declared.specification.Policy.{Policy}
use Rattle.scram_types.specs.declared.specification.Policy.TheVariants.{Retarget, Settle}
use Rattle.scram_types.specs.Scripts.{ScriptParts}
use Rattle.scram_types.specs.Specification.{Parts}
use Rattle.choice_table.specs.Choices.{choose, is_runnable}
use Rattle.fault_script.specs.Environments.{env_at}
use Rattle.frame_model.specs.Decisions as told
use Rattle.frame_model.specs.Flights.{decided}
use Rattle.frame_model.specs.Phases as phases
use Rattle.trace_props.proofs.Plans.{plan_halting}
use Rattle.trace_props.proofs.CourseModes.{CourseMode, CourseMode.Moving, course_target, course_is_running, course_stable_decision, course_turn, course_decision}
use Rattle.trace_props.proofs.Courses.{course_decision_after, course_mode_at}
use Rattle.trace_props.proofs.Products.{course_of, course_mode_of, halting_number, plan_of, runs_in_row, settles_under}

mode_if : (b : Bool) (x y : KMode) → course_mode_of (if b then x else y) ≡ (if b then course_mode_of x else course_mode_of y)
mode_if true x y = refl
mode_if false x y = refl

leave_same : (spec : Parts) (c t : ConfId) (f : ℕ) → course_mode_of (told.leave_for c t f) ≡ course_stable_decision f c.0 t.0
leave_same spec c t f = mode_if (t.0 == c.0) (kmode.Stable c) (kmode.Moving c (Some c) t f)

pub frames_same : (spec : Parts) (halting : Option ConfId) → plan_halting (plan_of spec) (halting_number halting) ≡ phases.halting_frames spec halting
frames_same spec None = refl
frames_same spec (Some c) = refl

wanted_if : (b : Bool) (to t : ConfId) → (if b then to.0 else t.0) ≡ (if b then to else t).0
wanted_if true to t = refl
wanted_if false to t = refl

wanted_same : (policy : Policy) (spec : Parts) (from to : ConfId) (v : Env)
    → (if (settles_under policy && is_runnable spec to v) then to.0 else (choose spec from v).0) ≡ (told.wanted policy spec from to v).0
wanted_same Retarget spec from to v = refl
wanted_same Settle spec from to v = wanted_if (is_runnable spec to v) to (choose spec from v)

-- The mode that three tests pick among modes of the kernel becomes the mode that they pick among the same modes of a
-- course.
four_ways : (a b c : Bool) (w x y z : KMode) → course_mode_of (if a then w else (if b then x else (if c then y else z))) ≡ (if a then course_mode_of w else (if b then course_mode_of x else (if c then course_mode_of y else course_mode_of z)))
four_ways true b c w x y z = refl
four_ways false true c w x y z = refl
four_ways false false true w x y z = refl
four_ways false false false w x y z = refl

turn_same : (spec : Parts) (f : ℕ) (from : ConfId) (halting : Option ConfId) (to : ConfId) (since : ℕ) (settled : Bool) (t : ConfId)
    → course_mode_of (told.moving_decision spec f from halting to since settled t) ≡ course_turn (plan_of spec) f from.0 (halting_number halting) to.0 since settled t.0
turn_same spec f from halting to since settled t = rw frames_same (four_ways (t.0 == to.0) (nat_lt (f - since) (phases.halting_frames spec halting)) settled
    (kmode.Moving from halting to since) (kmode.Moving from halting t since) (kmode.Moving from (Some to) t f) (kmode.Moving from None t f))

moving_if : (b : Bool) (x y : KMode) (p q : CourseMode) → course_mode_of x ≡ p → course_mode_of y ≡ q → course_mode_of (if b then x else y) ≡ (if b then p else q)
moving_if true x y p q e k = e
moving_if false x y p q e k = k

decision_same : (spec : Parts) (f : ℕ) (from : ConfId) (halting : Option ConfId) (to : ConfId) (since : ℕ) (settled arrived : Bool) (v : Env)
    → course_mode_of (told.decision spec f (kmode.Moving from halting to since) settled arrived v) ≡ course_decision (plan_of spec) f (Moving from.0 (halting_number halting) to.0 since) settled arrived v
decision_same spec f from halting to since settled arrived v =
    moving_if arrived (told.stable_decision spec to f v) (told.moving_decision spec f from halting to since settled (told.wanted spec.policy spec from to v)) _ _
    (leave_same spec to (choose spec to v) f)
    (turn_same spec f from halting to since settled (told.wanted spec.policy spec from to v)
    ∙ ap (course_turn (plan_of spec) f from.0 (halting_number halting) to.0 since settled) (sym (wanted_same spec.policy spec from to v)))

past_same : (spec : Parts) (from : ConfId) (halting : Option ConfId) (to : ConfId) (since f : ℕ)
    → course_is_running (plan_of spec) (Moving from.0 (halting_number halting) to.0 since) f ≡ phases.is_past spec halting to since f
past_same spec from halting to since f = rw frames_same refl

next_same : (spec : Parts) (script : ScriptParts) (f : ℕ) (m : KMode) (v : Env)
    → course_mode_of (told.decision spec (suc f) m (phases.is_settled spec m f) (phases.is_settled spec m f && runs_in_row spec script f (phases.target m).0) v)
    ≡ course_decision (plan_of spec) (suc f) (course_mode_of m) (course_is_running (plan_of spec) (course_mode_of m) f) (course_is_running (plan_of spec) (course_mode_of m) f && runs_in_row spec script f (course_target (course_mode_of m))) v
next_same spec script f (kmode.Stable c) v = leave_same spec c (choose spec c v) (suc f)
next_same spec script f (kmode.Moving from halting to since) v =
    rw (past_same spec from halting to since f) (decision_same spec (suc f) from halting to since (phases.is_past spec halting to since f) (phases.is_past spec halting to since f && runs_in_row spec script f to.0) v)

back : (f : ℕ) → suc f - 1 ≡ f
back f = omega arith

pub same_mode : (spec : Parts) (script : ScriptParts) (f : ℕ) → course_mode_of (decided spec script f) ≡ course_mode_at (plan_of spec) (course_of spec script) f
same_mode spec script zero = leave_same spec spec.start (choose spec spec.start (env_at spec script 0)) 0
same_mode spec script (suc f) =
    ap (λ g. course_mode_of (told.decision spec (suc f) (decided spec script f) (phases.is_settled spec (decided spec script f) g)
    (phases.is_settled spec (decided spec script f) f && runs_in_row spec script f (phases.target (decided spec script f)).0) (env_at spec script (suc f)))) (back f)
    ∙ next_same spec script f (decided spec script f) (env_at spec script (suc f))
    ∙ ap (course_decision_after (plan_of spec) (course_of spec script) f) (same_mode spec script f)
