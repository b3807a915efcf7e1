use Rattle.std.proofs.Common.{ap, arith, refl, ◌∙◌}
use Rattle.std.proofs.lemmas.Nat.{mul-le}
use Rattle.dep_order.specs.declared.timetables.Times.{Times}
use Rattle.coverage_check.proofs.timing.least.Goals as goal

pub overflow_mul-before : goal.overflow_mul-before
overflow_mul-before c = omega (arith, mul-le c.further.result c.slowest.result 256 196606 c.further.ensures.most c.slowest.ensures.most)

pub overflow_add-before-2 : goal.overflow_add-before-2
overflow_add-before-2 c = omega (arith, mul-le c.further.result c.slowest.result 256 196606 c.further.ensures.most c.slowest.ensures.most)

pub overflow_add-result : goal.overflow_add-result
overflow_add-result c = omega (arith, mul-le c.further.result c.slowest.result 256 196606 c.further.ensures.most c.slowest.ensures.most)

pub overflow_add-result-2 : goal.overflow_add-result-2
overflow_add-result-2 c = omega (arith, mul-le c.further.result c.slowest.result 256 196606 c.further.ensures.most c.slowest.ensures.most)

pub returns : goal.returns
returns c =
    let halted = c.from.ensures ∙ ap (λ (t : Times). t.h) c.timetable.ensures in
    let prepared = c.from-2.ensures ∙ ap (λ (t : Times). t.p) c.timetable-target.ensures in
    let initialised = c.from-3.ensures ∙ ap (λ (t : Times). t.i) c.timetable-target.ensures in
    rw halted (rw c.further.ensures.value (rw c.slowest.ensures.value (rw prepared (rw initialised refl))))
