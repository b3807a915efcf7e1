use Rattle.std.proofs.Common.{◌≡◌, ◌<◌, ℕ, arith, sym, subst}
use Rattle.kernel_pair.specs.Cores.{IsKernelOf}
use Rattle.kernel_pair.specs.Machines.{PairParts, pair_flight, pair_in}
use Rattle.kernel_pair.specs.Pairs.{IsPairNext}
use Rattle.kernel_pair.specs.declared.events.PairEvent.TheVariants.{Note}
use Rattle.kernel_pair.proofs.CoreSteps.{first_notes, frame_after, kernel_before, second_notes, steps_after}
use Rattle.kernel_pair.proofs.cores.PairCore.note.Goals as goal

pub end_frame-requires-clause-steps : goal.end_frame-requires-clause-steps
end_frame-requires-clause-steps g c =
    let k = c.self.inside in
    let next : IsPairNext (pair_flight k.machine) k.machine.halt (pair_in k.machine) (Note c.args.u c.args.p) = subst (λ (v : PairParts). IsPairNext (pair_flight v) v.halt (pair_in v) (Note c.args.u c.args.p)) (sym c.self.view_is) c.requires in
    steps_after k.machine c.make.new.self c.args.u c.args.p c.make.ensures c.holds.ensures.kept next

pub end_frame-requires-clause-frame : goal.end_frame-requires-clause-frame
end_frame-requires-clause-frame g c =
    let k = c.self.inside in
    let next : IsPairNext (pair_flight k.machine) k.machine.halt (pair_in k.machine) (Note c.args.u c.args.p) = subst (λ (v : PairParts). IsPairNext (pair_flight v) v.halt (pair_in v) (Note c.args.u c.args.p)) (sym c.self.view_is) c.requires in
    frame_after k.machine c.make.new.self c.args.u c.args.p c.make.ensures c.holds.ensures.kept next

pub end_frame-requires-clause-kernel : goal.end_frame-requires-clause-kernel
end_frame-requires-clause-kernel g c =
    let k = c.self.inside in
    let next : IsPairNext (pair_flight k.machine) k.machine.halt (pair_in k.machine) (Note c.args.u c.args.p) = subst (λ (v : PairParts). IsPairNext (pair_flight v) v.halt (pair_in v) (Note c.args.u c.args.p)) (sym c.self.view_is) c.requires in
    kernel_before k.machine c.make.new.self c.args.u c.args.p c.make.ensures c.holds.ensures.kept next k.first (subst (λ (u : ℕ). IsKernelOf k.machine u k.first) (sym c.if-u-eq0.true) c.self.invariant.first)

pub invariant_of-self : goal.invariant_of-self
invariant_of-self g c =
    let k = c.self.inside in
    let next : IsPairNext (pair_flight k.machine) k.machine.halt (pair_in k.machine) (Note c.args.u c.args.p) = subst (λ (v : PairParts). IsPairNext (pair_flight v) v.halt (pair_in v) (Note c.args.u c.args.p)) (sym c.self.view_is) c.requires in
    first_notes k.machine c.make.new.self c.args.u c.args.p c.if-u-eq0.true c.make.ensures k.first c.end_frame.new.kernel k.second k.flyers.items c.self.invariant c.end_frame.ensures

pub end_frame-requires-else-u-eq0-clause-steps : goal.end_frame-requires-else-u-eq0-clause-steps
end_frame-requires-else-u-eq0-clause-steps g c =
    let k = c.self.inside in
    let next : IsPairNext (pair_flight k.machine) k.machine.halt (pair_in k.machine) (Note c.args.u c.args.p) = subst (λ (v : PairParts). IsPairNext (pair_flight v) v.halt (pair_in v) (Note c.args.u c.args.p)) (sym c.self.view_is) c.requires in
    steps_after k.machine c.make.new.self c.args.u c.args.p c.make.ensures c.holds.ensures.kept next

pub end_frame-requires-else-u-eq0-clause-frame : goal.end_frame-requires-else-u-eq0-clause-frame
end_frame-requires-else-u-eq0-clause-frame g c =
    let k = c.self.inside in
    let next : IsPairNext (pair_flight k.machine) k.machine.halt (pair_in k.machine) (Note c.args.u c.args.p) = subst (λ (v : PairParts). IsPairNext (pair_flight v) v.halt (pair_in v) (Note c.args.u c.args.p)) (sym c.self.view_is) c.requires in
    frame_after k.machine c.make.new.self c.args.u c.args.p c.make.ensures c.holds.ensures.kept next

pub end_frame-requires-else-u-eq0-clause-kernel : goal.end_frame-requires-else-u-eq0-clause-kernel
end_frame-requires-else-u-eq0-clause-kernel g c =
    let k = c.self.inside in
    let next : IsPairNext (pair_flight k.machine) k.machine.halt (pair_in k.machine) (Note c.args.u c.args.p) = subst (λ (v : PairParts). IsPairNext (pair_flight v) v.halt (pair_in v) (Note c.args.u c.args.p)) (sym c.self.view_is) c.requires in
    let one : c.args.u ≡ 1 = let low : c.args.u < 2 = next.0 in omega (arith, low, c.if-u-eq0.false) in
    kernel_before k.machine c.make.new.self c.args.u c.args.p c.make.ensures c.holds.ensures.kept next k.second (subst (λ (u : ℕ). IsKernelOf k.machine u k.second) (sym one) c.self.invariant.second)

pub invariant_of-self-else-u-eq0 : goal.invariant_of-self-else-u-eq0
invariant_of-self-else-u-eq0 g c =
    let k = c.self.inside in
    let next : IsPairNext (pair_flight k.machine) k.machine.halt (pair_in k.machine) (Note c.args.u c.args.p) = subst (λ (v : PairParts). IsPairNext (pair_flight v) v.halt (pair_in v) (Note c.args.u c.args.p)) (sym c.self.view_is) c.requires in
    let one : c.args.u ≡ 1 = let low : c.args.u < 2 = next.0 in omega (arith, low, c.if-u-eq0.false) in
    second_notes k.machine c.make.new.self c.args.u c.args.p one c.make.ensures k.first k.second c.end_frame-else-u-eq0.new.kernel k.flyers.items c.self.invariant c.end_frame-else-u-eq0.ensures
