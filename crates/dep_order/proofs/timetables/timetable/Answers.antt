use Rattle.std.proofs.Common.{◌∙◌, ap, arith, ℕ, [], length, refl}
use Rattle.std.specs.Prelude.{replicate}
use Rattle.scram_types.proofs.Items.{zeros_everywhere}
use Rattle.dep_order.specs.declared.timetables.Phase.TheVariants as phase
use Rattle.dep_order.specs.Timetables.{IsTableOf, halt_chart, halt_offset, halt_time, init_chart, init_offset, init_time, phase_length, prepare_time, timed_chart}
use Rattle.dep_order.proofs.Charts.{same_offset}
use Rattle.dep_order.proofs.Lengths.{kept_is, length_alone, length_is, same_times, timed_agree, times_most}
use Rattle.dep_order.proofs.Modes.{timed}
use Rattle.dep_order.proofs.timetables.timetable.Goals as goal

pub offsets_in-halt_offsets-requires : goal.offsets_in-halt_offsets-requires
offsets_in-halt_offsets-requires c = λ a less.
    let known = c.count_apps-count.ensures.known in
    times_most c.args.spec.now known c.args.c c.times_in-halt_times.result [] (halt_time c.args.spec.now c.args.c)
    (λ b. (timed c.args.spec.now known c.args.c b).halt) c.times_in-halt_times.ensures (length c.args.spec.now.apps) (omega arith) a less

pub offsets_in-init_offsets-requires : goal.offsets_in-init_offsets-requires
offsets_in-init_offsets-requires c = λ a less.
    let known = c.count_apps-count.ensures.known in
    times_most c.args.spec.now known c.args.c c.times_in-init_times.result [] (init_time c.args.spec.now c.args.c)
    (λ b. (timed c.args.spec.now known c.args.c b).init) c.times_in-init_times.ensures (length c.args.spec.now.apps) (omega arith) a less

pub length_of_phase-requires-clause-times : goal.length_of_phase-requires-clause-times
length_of_phase-requires-clause-times c = λ a less.
    let known = c.count_apps-count.ensures.known in
    times_most c.args.spec.now known c.args.c c.times_in-halt_times.result [] (halt_time c.args.spec.now c.args.c)
    (λ b. (timed c.args.spec.now known c.args.c b).halt) c.times_in-halt_times.ensures c.count_apps-count.result (omega arith) a less

pub length_of_phase-requires-2-clause-times : goal.length_of_phase-requires-2-clause-times
length_of_phase-requires-2-clause-times c = λ a less.
    let known = c.count_apps-count.ensures.known in
    times_most c.args.spec.now known c.args.c c.times_in-prepare_times.result [] (prepare_time c.args.spec.now c.args.c)
    (λ b. (timed c.args.spec.now known c.args.c b).prepare) c.times_in-prepare_times.ensures c.count_apps-count.result (omega arith) a less

pub length_of_phase-requires-3-clause-times : goal.length_of_phase-requires-3-clause-times
length_of_phase-requires-3-clause-times c = λ a less.
    let known = c.count_apps-count.ensures.known in
    times_most c.args.spec.now known c.args.c c.times_in-init_times.result [] (init_time c.args.spec.now c.args.c)
    (λ b. (timed c.args.spec.now known c.args.c b).init) c.times_in-init_times.ensures c.count_apps-count.result (omega arith) a less

-- The offsets are those of the halt chart and of the init chart.
halt_holds : (c : goal.After-length_of_phase-3) → IsTableOf (halt_offset c.args.spec.now c.args.c) (length c.args.spec.now.apps) c.offsets_in-halt_offsets.result
halt_holds c = λ a less.
    let known = c.count_apps-count.ensures.known in
    c.offsets_in-halt_offsets.ensures.offsets a less
    ∙ same_offset (timed_chart c.args.spec.now phase.Halt c.times_in-halt_times.result) (halt_chart c.args.spec.now c.args.c)
    (timed_agree c.args.spec.now known c.args.c c.times_in-halt_times.result [] (halt_time c.args.spec.now c.args.c)
    (λ b. (timed c.args.spec.now known c.args.c b).halt) c.times_in-halt_times.ensures phase.Halt (halt_chart c.args.spec.now c.args.c)
    refl (λ b. refl) (λ b d. refl) (λ b. refl)) a

init_holds : (c : goal.After-length_of_phase-3) → IsTableOf (init_offset c.args.spec.now c.args.c) (length c.args.spec.now.apps) c.offsets_in-init_offsets.result
init_holds c = λ a less.
    let known = c.count_apps-count.ensures.known in
    c.offsets_in-init_offsets.ensures.offsets a less
    ∙ same_offset (timed_chart c.args.spec.now phase.Init c.times_in-init_times.result) (init_chart c.args.spec.now c.args.c)
    (timed_agree c.args.spec.now known c.args.c c.times_in-init_times.result [] (init_time c.args.spec.now c.args.c)
    (λ b. (timed c.args.spec.now known c.args.c b).init) c.times_in-init_times.ensures phase.Init (init_chart c.args.spec.now c.args.c)
    refl (λ b. refl) (λ b d. refl) (λ b. refl)) a

pub returns : goal.returns
returns c =
    let known = c.count_apps-count.ensures.known in
    let halts = λ (b : ℕ). (timed c.args.spec.now known c.args.c b).halt in
    let inits = λ (b : ℕ). (timed c.args.spec.now known c.args.c b).init in
    same_times _ _ _ _ _ _ _ _ _ _
    (c.keep_where_on.ensures ∙ kept_is c.args.spec.now known c.args.c c.times_in-halt_times.result c.offsets_in-halt_offsets.result (halt_time c.args.spec.now c.args.c)
    halts c.times_in-halt_times.ensures (halt_offset c.args.spec.now c.args.c) (halt_holds c))
    (c.keep_where_on-2.ensures ∙ kept_is c.args.spec.now known c.args.c c.times_in-init_times.result c.offsets_in-init_offsets.result (init_time c.args.spec.now c.args.c)
    inits c.times_in-init_times.ensures (init_offset c.args.spec.now c.args.c) (init_holds c))
    (c.length_of_phase.ensures ∙ ap (phase_length c.times_in-halt_times.result c.offsets_in-halt_offsets.result) c.count_apps-count.ensures.value
    ∙ length_is c.args.spec.now known c.args.c c.times_in-halt_times.result c.offsets_in-halt_offsets.result (halt_time c.args.spec.now c.args.c)
    halts c.times_in-halt_times.ensures (halt_offset c.args.spec.now c.args.c) (halt_holds c))
    (c.length_of_phase-2.ensures ∙ ap (phase_length c.times_in-prepare_times.result (replicate 8 0)) c.count_apps-count.ensures.value
    ∙ length_alone c.args.spec.now known c.args.c c.times_in-prepare_times.result (replicate 8 0) (prepare_time c.args.spec.now c.args.c)
    (λ b. (timed c.args.spec.now known c.args.c b).prepare) c.times_in-prepare_times.ensures (λ a less. zeros_everywhere 8 a))
    (c.length_of_phase-3.ensures ∙ ap (phase_length c.times_in-init_times.result c.offsets_in-init_offsets.result) c.count_apps-count.ensures.value
    ∙ length_is c.args.spec.now known c.args.c c.times_in-init_times.result c.offsets_in-init_offsets.result (init_time c.args.spec.now c.args.c)
    inits c.times_in-init_times.ensures (init_offset c.args.spec.now c.args.c) (init_holds c))
