use Rattle.std.proofs.Common.{rules, ◌≡◌, ◌<◌, ◌∙◌, true, false, ap, refl, sym, subst}
use Rattle.std.specs.Prelude.{vec_capacity, vec_len}
use Rattle.fail_stop.specs.Kept.{Kept}
use Rattle.fail_stop.specs.ScriptFlights.{flight_of}
use Rattle.fail_stop.specs.Listed.{stored_in}
use Rattle.scram_kernel.specs.Kernels.{kernel_after}
use Rattle.event_core.specs.Cores.{MachineKeeps, ends_frame}
use Rattle.event_core.specs.Places.{machine_places}
use Rattle.event_core.proofs.Ending.{Ends, core_on, core_still, ends, goes_on}
use Rattle.event_core.proofs.Steps.{fewer_by, happens, happens_by, has_room, is_inside, kept_of, less, low, moves_on, next_by, step_keeps}
use Rattle.event_core.proofs.cores.Core.step.Goals as goal

pub store-requires-clause-room : goal.store-requires-clause-room
store-requires-clause-room c =
    let next = next_by c.args.self.now c.self.inside.spec.now c.self.inside.script.now c.self.inside.places c.self.inside.stored.items c.self.inside.history.items c.args.event c.next_of_actor-next.result
    c.self.view_is c.next_of_actor-next.ensures (c.if-not-is_event.ensures.0 refl) in
    moves_on _ _ _ _ _ _ _ c.self.invariant.machine c.args.event next

pub places_after-self-inside-requires-clause-room : goal.places_after-self-inside-requires-clause-room
places_after-self-inside-requires-clause-room c =
    let next = next_by c.args.self.now c.self.inside.spec.now c.self.inside.script.now c.self.inside.places c.self.inside.stored.items c.self.inside.history.items c.args.event c.next_of_actor-next.result
    c.self.view_is c.next_of_actor-next.ensures (c.if-not-is_event.ensures.0 refl) in
    moves_on _ _ _ _ _ _ _ c.self.invariant.machine c.args.event next

pub push_reserved-requires : goal.push_reserved-requires
push_reserved-requires c =
    let next = next_by c.args.self.now c.self.inside.spec.now c.self.inside.script.now c.self.inside.places c.self.inside.stored.items c.self.inside.history.items c.args.event c.next_of_actor-next.result
    c.self.view_is c.next_of_actor-next.ensures (c.if-not-is_event.ensures.0 refl) in
    has_room _ _ _ _ _ _ _ c.self.invariant.machine c.args.event next

pub end_frame-requires-clause-kept : goal.end_frame-requires-clause-kept
end_frame-requires-clause-kept c =
    let next = next_by c.args.self.now c.self.inside.spec.now c.self.inside.script.now c.self.inside.places c.self.inside.stored.items c.self.inside.history.items c.args.event c.next_of_actor-next.result
    c.self.view_is c.next_of_actor-next.ensures (c.if-not-is_event.ensures.0 refl) in
    let machine : MachineKeeps c.self.inside.spec.now c.self.inside.script.now c.places_after-self-inside.result c.store.new.stored.items c.push_reserved.new.self.items (vec_capacity c.push_reserved.new.self) (vec_len c.push_reserved.new.self) =
    step_keeps _ _ _ _ _ _ _ c.self.invariant.machine c.args.event next c.places_after-self-inside.result _ (c.places_after-self-inside.ensures c.self.inside.spec.now) (search rules)
    _ _ _ (search rules) (search rules) (search rules) in
    subst (λ list. Kept (flight_of c.self.inside.spec.now c.self.inside.script.now) (machine_places c.places_after-self-inside.result) (stored_in list)) (sym c.deref.ensures.value) (kept_of machine)

pub end_frame-requires-clause-noted : goal.end_frame-requires-clause-noted
end_frame-requires-clause-noted c =
    let next = next_by c.args.self.now c.self.inside.spec.now c.self.inside.script.now c.self.inside.places c.self.inside.stored.items c.self.inside.history.items c.args.event c.next_of_actor-next.result
    c.self.view_is c.next_of_actor-next.ensures (c.if-not-is_event.ensures.0 refl) in
    let last : ends_frame c.self.inside.spec.now c.args.event ≡ true = sym c.ends_frame.ensures ∙ c.if-ends_frame.true in
    let at_end : Ends c.self.inside.spec.now c.self.invariant.machine.facts c.self.inside.script.now c.self.inside.places c.places_after-self-inside.result (stored_in c.self.inside.stored.items) =
    ends c.self.inside.spec.now c.self.invariant.machine.facts c.self.inside.script.now c.self.inside.places c.places_after-self-inside.result (stored_in c.self.inside.stored.items)
    c.args.event next (c.places_after-self-inside.ensures c.self.inside.spec.now) last in
    at_end.step

pub end_frame-requires-clause-frame : goal.end_frame-requires-clause-frame
end_frame-requires-clause-frame c =
    let next = next_by c.args.self.now c.self.inside.spec.now c.self.inside.script.now c.self.inside.places c.self.inside.stored.items c.self.inside.history.items c.args.event c.next_of_actor-next.result
    c.self.view_is c.next_of_actor-next.ensures (c.if-not-is_event.ensures.0 refl) in
    let last : ends_frame c.self.inside.spec.now c.args.event ≡ true = sym c.ends_frame.ensures ∙ c.if-ends_frame.true in
    let at_end : Ends c.self.inside.spec.now c.self.invariant.machine.facts c.self.inside.script.now c.self.inside.places c.places_after-self-inside.result (stored_in c.self.inside.stored.items) =
    ends c.self.inside.spec.now c.self.invariant.machine.facts c.self.inside.script.now c.self.inside.places c.places_after-self-inside.result (stored_in c.self.inside.stored.items)
    c.args.event next (c.places_after-self-inside.ensures c.self.inside.spec.now) last in
    let below = low _ _ _ _ _ _ _ c.self.invariant.machine c.args.event next in
    subst (λ f. f < c.self.inside.script.now.frames) (sym at_end.same) below

pub end_frame-requires-clause-kernel : goal.end_frame-requires-clause-kernel
end_frame-requires-clause-kernel c =
    let next = next_by c.args.self.now c.self.inside.spec.now c.self.inside.script.now c.self.inside.places c.self.inside.stored.items c.self.inside.history.items c.args.event c.next_of_actor-next.result
    c.self.view_is c.next_of_actor-next.ensures (c.if-not-is_event.ensures.0 refl) in
    let last : ends_frame c.self.inside.spec.now c.args.event ≡ true = sym c.ends_frame.ensures ∙ c.if-ends_frame.true in
    let at_end : Ends c.self.inside.spec.now c.self.invariant.machine.facts c.self.inside.script.now c.self.inside.places c.places_after-self-inside.result (stored_in c.self.inside.stored.items) =
    ends c.self.inside.spec.now c.self.invariant.machine.facts c.self.inside.script.now c.self.inside.places c.places_after-self-inside.result (stored_in c.self.inside.stored.items)
    c.args.event next (c.places_after-self-inside.ensures c.self.inside.spec.now) last in
    c.self.invariant.kernel_is ∙ ap (kernel_after c.self.inside.spec.now c.self.inside.script.now) at_end.before

pub invariant_of-self : goal.invariant_of-self
invariant_of-self c =
    let next = next_by c.args.self.now c.self.inside.spec.now c.self.inside.script.now c.self.inside.places c.self.inside.stored.items c.self.inside.history.items c.args.event c.next_of_actor-next.result
    c.self.view_is c.next_of_actor-next.ensures (c.if-not-is_event.ensures.0 refl) in
    let machine : MachineKeeps c.self.inside.spec.now c.self.inside.script.now c.places_after-self-inside.result c.store.new.stored.items c.push_reserved.new.self.items (vec_capacity c.push_reserved.new.self) (vec_len c.push_reserved.new.self) =
    step_keeps _ _ _ _ _ _ _ c.self.invariant.machine c.args.event next c.places_after-self-inside.result _ (c.places_after-self-inside.ensures c.self.inside.spec.now) (search rules)
    _ _ _ (search rules) (search rules) (search rules) in
    let last : ends_frame c.self.inside.spec.now c.args.event ≡ true = sym c.ends_frame.ensures ∙ c.if-ends_frame.true in
    let at_end : Ends c.self.inside.spec.now c.self.invariant.machine.facts c.self.inside.script.now c.self.inside.places c.places_after-self-inside.result (stored_in c.self.inside.stored.items) =
    ends c.self.inside.spec.now c.self.invariant.machine.facts c.self.inside.script.now c.self.inside.places c.places_after-self-inside.result (stored_in c.self.inside.stored.items)
    c.args.event next (c.places_after-self-inside.ensures c.self.inside.spec.now) last in
    core_on c.self.inside.spec.now c.self.inside.script.now c.places_after-self-inside.result _ _ _ _ machine _ at_end.after c.end_frame.ensures.kernel

pub invariant_of-self-else-ends_frame : goal.invariant_of-self-else-ends_frame
invariant_of-self-else-ends_frame c =
    let next = next_by c.args.self.now c.self.inside.spec.now c.self.inside.script.now c.self.inside.places c.self.inside.stored.items c.self.inside.history.items c.args.event c.next_of_actor-next.result
    c.self.view_is c.next_of_actor-next.ensures (c.if-not-is_event.ensures.0 refl) in
    let machine : MachineKeeps c.self.inside.spec.now c.self.inside.script.now c.places_after-self-inside.result c.store.new.stored.items c.push_reserved.new.self.items (vec_capacity c.push_reserved.new.self) (vec_len c.push_reserved.new.self) =
    step_keeps _ _ _ _ _ _ _ c.self.invariant.machine c.args.event next c.places_after-self-inside.result _ (c.places_after-self-inside.ensures c.self.inside.spec.now) (search rules)
    _ _ _ (search rules) (search rules) (search rules) in
    let waits : ends_frame c.self.inside.spec.now c.args.event ≡ false = sym c.ends_frame.ensures ∙ c.if-ends_frame.false in
    let same = goes_on c.self.inside.spec.now c.self.invariant.machine.facts c.self.inside.script.now c.self.inside.places c.places_after-self-inside.result (stored_in c.self.inside.stored.items)
    c.args.event next (c.places_after-self-inside.ensures c.self.inside.spec.now) waits in
    core_still c.self.inside.spec.now c.self.inside.script.now c.places_after-self-inside.result _ _ _ _ machine _ _ same c.self.invariant.kernel_is

pub returns-then-ends_frame-clause-happens : goal.returns-then-ends_frame-clause-happens
returns-then-ends_frame-clause-happens c =
    let next = next_by c.args.self.now c.self.inside.spec.now c.self.inside.script.now c.self.inside.places c.self.inside.stored.items c.self.inside.history.items c.args.event c.next_of_actor-next.result
    c.self.view_is c.next_of_actor-next.ensures (c.if-not-is_event.ensures.0 refl) in
    happens_by c.args.self.now c.self.inside.spec.now c.self.inside.script.now c.self.inside.places c.self.inside.stored.items c.self.inside.history.items c.args.event
    c.places_after-self-inside.result c.store.new.stored.items c.self.view_is
    (happens _ _ _ _ _ _ _ c.self.invariant.machine c.args.event next c.places_after-self-inside.result c.store.new.stored.items (c.places_after-self-inside.ensures c.self.inside.spec.now) (search rules))

pub returns-else-ends_frame-clause-happens : goal.returns-else-ends_frame-clause-happens
returns-else-ends_frame-clause-happens c =
    let next = next_by c.args.self.now c.self.inside.spec.now c.self.inside.script.now c.self.inside.places c.self.inside.stored.items c.self.inside.history.items c.args.event c.next_of_actor-next.result
    c.self.view_is c.next_of_actor-next.ensures (c.if-not-is_event.ensures.0 refl) in
    happens_by c.args.self.now c.self.inside.spec.now c.self.inside.script.now c.self.inside.places c.self.inside.stored.items c.self.inside.history.items c.args.event
    c.places_after-self-inside.result c.store.new.stored.items c.self.view_is
    (happens _ _ _ _ _ _ _ c.self.invariant.machine c.args.event next c.places_after-self-inside.result c.store.new.stored.items (c.places_after-self-inside.ensures c.self.inside.spec.now) (search rules))

pub returns-then-ends_frame-clause-fewer : goal.returns-then-ends_frame-clause-fewer
returns-then-ends_frame-clause-fewer c =
    let next = next_by c.args.self.now c.self.inside.spec.now c.self.inside.script.now c.self.inside.places c.self.inside.stored.items c.self.inside.history.items c.args.event c.next_of_actor-next.result
    c.self.view_is c.next_of_actor-next.ensures (c.if-not-is_event.ensures.0 refl) in
    fewer_by c.args.self.now c.self.inside.spec.now c.self.inside.script.now c.self.inside.places c.self.inside.stored.items c.self.inside.history.items c.places_after-self-inside.result c.self.view_is
    (less _ _ _ _ _ _ _ c.self.invariant.machine c.args.event next (machine_places c.places_after-self-inside.result) (c.places_after-self-inside.ensures c.self.inside.spec.now))

pub returns-else-ends_frame-clause-fewer : goal.returns-else-ends_frame-clause-fewer
returns-else-ends_frame-clause-fewer c =
    let next = next_by c.args.self.now c.self.inside.spec.now c.self.inside.script.now c.self.inside.places c.self.inside.stored.items c.self.inside.history.items c.args.event c.next_of_actor-next.result
    c.self.view_is c.next_of_actor-next.ensures (c.if-not-is_event.ensures.0 refl) in
    fewer_by c.args.self.now c.self.inside.spec.now c.self.inside.script.now c.self.inside.places c.self.inside.stored.items c.self.inside.history.items c.places_after-self-inside.result c.self.view_is
    (less _ _ _ _ _ _ _ c.self.invariant.machine c.args.event next (machine_places c.places_after-self-inside.result) (c.places_after-self-inside.ensures c.self.inside.spec.now))

pub store-requires-clause-event : goal.store-requires-clause-event
store-requires-clause-event c =
    let next = next_by c.args.self.now c.self.inside.spec.now c.self.inside.script.now c.self.inside.places c.self.inside.stored.items c.self.inside.history.items c.args.event c.next_of_actor-next.result
    c.self.view_is c.next_of_actor-next.ensures (c.if-not-is_event.ensures.0 refl) in
    is_inside _ _ _ _ _ _ _ c.self.invariant.machine c.args.event next

pub places_after-self-inside-requires-clause-event : goal.places_after-self-inside-requires-clause-event
places_after-self-inside-requires-clause-event c =
    let next = next_by c.args.self.now c.self.inside.spec.now c.self.inside.script.now c.self.inside.places c.self.inside.stored.items c.self.inside.history.items c.args.event c.next_of_actor-next.result
    c.self.view_is c.next_of_actor-next.ensures (c.if-not-is_event.ensures.0 refl) in
    is_inside _ _ _ _ _ _ _ c.self.invariant.machine c.args.event next

pub returns-else-ends_frame-clause-next : goal.returns-else-ends_frame-clause-next
returns-else-ends_frame-clause-next c = search rules

pub returns-then-ends_frame-clause-next : goal.returns-then-ends_frame-clause-next
returns-then-ends_frame-clause-next c = search rules

pub returns-then-not-is_event-clause-same : goal.returns-then-not-is_event-clause-same
returns-then-not-is_event-clause-same c = search rules
