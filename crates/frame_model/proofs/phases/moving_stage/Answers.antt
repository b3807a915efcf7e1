use Rattle.std.proofs.Common.{◌≡◌, ◌∙◌, ℕ, ◌-◌, ◌<◌, ◌≤◌, ap, arith, false, subst, sym, true}
use Rattle.std.specs.Prelude.{Some, if◌then◌else◌, nat_lt}
use Rattle.std.proofs.lemmas.Bool.Decides.{nat_tests}
use Rattle.scram_types.specs.declared.ids.ConfId.{ConfId}
use Rattle.scram_types.specs.Specification.{Parts}
use Rattle.dep_order.specs.declared.timetables.Times.{Times}
use Rattle.dep_order.specs.Timetables.{halting_time}
use Rattle.frame_model.specs.declared.phases.Phase.TheVariants.{Halting}
use Rattle.frame_model.specs.Phases.{after_halting, moving_phase}
use Rattle.frame_model.proofs.phases.moving_stage.Goals as goal

below : (age h : ℕ) → age < h → nat_lt age h ≡ true
below age h low = grind (arith, nat_tests)

past : (age h : ℕ) → h ≤ age → nat_lt age h ≡ false
past age h high = grind (arith, nat_tests)

halts : (spec : Parts) (c to : ConfId) (age h : ℕ) → h ≡ halting_time spec c → age < h → Halting c age ≡ moving_phase spec (Some c) to age
halts spec c to age h time low =
    ap (λ test. if test then Halting c age else after_halting spec to (age - halting_time spec c)) (sym (below age (halting_time spec c) (subst (λ n. age < n) time low)))

halted : (spec : Parts) (c to : ConfId) (age h : ℕ) → h ≡ halting_time spec c → h ≤ age → after_halting spec to (age - h) ≡ moving_phase spec (Some c) to age
halted spec c to age h time high =
    ap (λ n. after_halting spec to (age - n)) time
    ∙ ap (λ test. if test then Halting c age else after_halting spec to (age - halting_time spec c)) (sym (past age (halting_time spec c) (subst (λ n. n ≤ age) time high)))

pub returns-then-age-from-clause-phase : goal.returns-then-age-from-clause-phase
returns-then-age-from-clause-phase c =
    halts c.args.spec.now c.in-Some.c c.args.to c.args.age c.from.result (c.from.ensures ∙ ap (λ (t : Times). t.h) c.timetable-times.ensures) c.if-age-from.true
    ∙ ap (λ halting. moving_phase c.args.spec.now halting c.args.to c.args.age) (sym c.in-Some.is)

pub returns-then-age-from-clause-offsets : goal.returns-then-age-from-clause-offsets
returns-then-age-from-clause-offsets c = ap (λ (t : Times). t.halt) c.timetable-times.ensures

pub returns-else-age-from-clause-phase : goal.returns-else-age-from-clause-phase
returns-else-age-from-clause-phase c =
    let h = c.from-else-age-from.ensures in
    c.stage_after_halting.ensures.phase
    ∙ halted c.args.spec.now c.in-Some.c c.args.to c.args.age c.from-else-age-from.result (h ∙ ap (λ (t : Times). t.h) c.timetable-times.ensures) (subst (λ n. n ≤ c.args.age) (c.from.ensures ∙ sym h) c.if-age-from.false)
    ∙ ap (λ halting. moving_phase c.args.spec.now halting c.args.to c.args.age) (sym c.in-Some.is)

pub returns-in-None-clause-phase : goal.returns-in-None-clause-phase
returns-in-None-clause-phase c =
    c.stage_after_halting-in-None.ensures.phase ∙ ap (λ halting. moving_phase c.args.spec.now halting c.args.to c.args.age) (sym c.in-None.is)
