use Rattle.std.proofs.Common.{◌≡◌, ℕ, sym, subst}
use Rattle.std.specs.Prelude.{Some}
use Rattle.fault_script.specs.Times.{restart_of}
use Rattle.fail_stop.specs.ScriptFlights.{flight_of}
use Rattle.kernel_pair.specs.declared.events.PairEvent.TheVariants.{Fly}
use Rattle.kernel_pair.specs.Laws.{FindsBy, PairHolds}
use Rattle.kernel_pair.specs.Machines.{PairParts, pair_flight, pair_in}
use Rattle.kernel_pair.specs.Pairs.{IsPairNext, frame_to_make}
use Rattle.kernel_pair.specs.States.{pair_of}
use Rattle.fail_stop.proofs.ProcessorEvents.{some_same}
use Rattle.kernel_pair.proofs.machines.PairMachine.snapshot.Goals as goal

pub snapshot-requires-clause-finds : goal.snapshot-requires-clause-finds
snapshot-requires-clause-finds c =
    let k = c.self.inside in
    let s = pair_of k.state in
    let holds : PairHolds k.setup.spec.now k.setup.script.now k.setup.halt s = subst (λ (v : PairParts). PairHolds v.spec v.script v.halt (pair_in v)) (sym c.self.view_is) c.holds.ensures.holds in
    let next : IsPairNext (flight_of k.setup.spec.now k.setup.script.now) k.setup.halt s (Fly c.args.p c.args.u) =
    subst (λ (v : PairParts). IsPairNext (pair_flight v) v.halt (pair_in v) (Fly c.args.p c.args.u)) (sym c.self.view_is) c.requires.next in
    let frame : frame_to_make (restart_of k.setup.script.now c.args.p.0) (s.proc c.args.p.0).place ≡ Some c.args.frame =
    subst (λ (v : PairParts). frame_to_make (restart_of v.script c.args.p.0) ((pair_in v).proc c.args.p.0).place ≡ Some c.args.frame) (sym c.self.view_is) c.requires.frame in
    let same = some_same next.2.0 c.args.frame (frame_to_make (restart_of k.setup.script.now c.args.p.0) (s.proc c.args.p.0).place) next.2.1 frame in
    subst (λ (f : ℕ). FindsBy k.setup.spec.now k.setup.script.now s c.args.u f) same (holds.found c.args.p c.args.u next)
