use Rattle.std.proofs.Common.{sym, subst}
use Rattle.std.specs.Prelude.{vec_capacity, vec_len}
use Rattle.fail_stop.specs.ScriptFlights.{flight_of}
use Rattle.kernel_pair.specs.Machines.{IsPairNextIn, IsPairStep, PairParts, pair_flight, pair_in, parts_of}
use Rattle.kernel_pair.specs.Pairs.{IsPairNext}
use Rattle.kernel_pair.specs.States.{pair_of}
use Rattle.kernel_pair.proofs.Allowed.{has_room, kept_in, step_keeps, steps}
use Rattle.kernel_pair.proofs.machines.PairMachine.make.Goals as goal

pub make-requires-clause-kept : goal.make-requires-clause-kept
make-requires-clause-kept c =
    let k = c.self.inside in
    kept_in k.setup.spec.now k.setup.script.now k.setup.halt k.state k.events.items (vec_capacity k.events) (vec_len k.events) c.self.invariant

pub push_reserved-requires : goal.push_reserved-requires
push_reserved-requires c =
    let k = c.self.inside in
    let next : IsPairNext (flight_of k.setup.spec.now k.setup.script.now) k.setup.halt (pair_of k.state) c.args.event = subst (λ (v : PairParts). IsPairNext (pair_flight v) v.halt (pair_in v) c.args.event) (sym c.self.view_is) c.requires.next in
    has_room k.setup.spec.now k.setup.script.now k.setup.halt k.state k.events.items (vec_capacity k.events) (vec_len k.events) c.self.invariant c.args.event next

pub invariant_of-self : goal.invariant_of-self
invariant_of-self c =
    let k = c.self.inside in
    let next : IsPairNext (flight_of k.setup.spec.now k.setup.script.now) k.setup.halt (pair_of k.state) c.args.event = subst (λ (v : PairParts). IsPairNext (pair_flight v) v.halt (pair_in v) c.args.event) (sym c.self.view_is) c.requires.next in
    step_keeps k.setup.spec.now k.setup.script.now k.setup.halt k.state k.events.items (vec_capacity k.events) (vec_len k.events) c.self.invariant c.args.event next
    c.make.new.state c.push_reserved.new.self.items (vec_capacity c.push_reserved.new.self) (vec_len c.push_reserved.new.self)
    c.make.ensures c.push_reserved.ensures.items c.push_reserved.ensures.capacity c.push_reserved.ensures.len

pub returns : goal.returns
returns c =
    let k = c.self.inside in
    let next : IsPairNext (flight_of k.setup.spec.now k.setup.script.now) k.setup.halt (pair_of k.state) c.args.event =
    subst (λ (v : PairParts). IsPairNext (pair_flight v) v.halt (pair_in v) c.args.event) (sym c.self.view_is) c.requires.next in
    subst (λ (v : PairParts). IsPairStep v c.args.event (parts_of k.setup.spec.now k.setup.script.now k.setup.halt c.make.new.state c.push_reserved.new.self.items)) c.self.view_is
    (steps k.setup.spec.now k.setup.script.now k.setup.halt k.state k.events.items (vec_capacity k.events) (vec_len k.events) c.self.invariant c.args.event next c.make.new.state c.push_reserved.new.self.items c.make.ensures c.push_reserved.ensures.items)

pub make-requires-clause-next : goal.make-requires-clause-next
make-requires-clause-next c = subst (λ (v : PairParts). IsPairNextIn v c.args.event) (sym c.self.view_is) c.requires.next
