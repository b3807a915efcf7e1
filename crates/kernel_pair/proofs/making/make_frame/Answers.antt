use Rattle.std.proofs.Common.{◌≡◌, ◌∙◌, ◌<◌, ℕ, sym, subst}
use Rattle.std.specs.Prelude.{Some}
use Rattle.fault_script.specs.Times.{restart_of}
use Rattle.kernel_pair.specs.Pairs.{frame_to_make}
use Rattle.kernel_pair.specs.States.{pair_of}
use Rattle.kernel_pair.proofs.Allowed.{fly_small}
use Rattle.fail_stop.proofs.ProcessorEvents.{some_same}
use Rattle.kernel_pair.proofs.making.make_frame.Goals as goal

pub fly-requires-clause-frame : goal.fly-requires-clause-frame
fly-requires-clause-frame c =
    let next = c.requires.next in
    let e : frame_to_make (restart_of c.args.setup.now.script.now c.args.p.0) ((pair_of c.args.state.now).proc c.args.p.0).place ≡ Some c.in-Some.frame = sym c.frame_of.ensures ∙ c.in-Some.is in
    let same = some_same next.2.0 c.in-Some.frame (frame_to_make (restart_of c.args.setup.now.script.now c.args.p.0) ((pair_of c.args.state.now).proc c.args.p.0).place) next.2.1 e in
    (fly_small c.args.setup.now.spec.now c.args.setup.now.script.now c.args.setup.now.halt (pair_of c.args.state.now) c.requires.facts c.requires.fits c.requires.kept c.args.p c.args.u c.in-Some.frame next.0 next.1 e
    (subst (λ (f : ℕ). f < ((pair_of c.args.state.now).unit c.args.u).release) same next.2.2)).1
