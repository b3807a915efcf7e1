use Rattle.std.proofs.Common.{rules}
use Rattle.std.specs.Prelude.{vec_capacity, vec_len}
use Rattle.kernel_pair.proofs.Opened.{open_keeps}
use Rattle.kernel_pair.proofs.machines.PairMachine.open.Goals as goal

pub invariant_of-result : goal.invariant_of-result
invariant_of-result c =
    let setup = c.args.setup.now in
    let events = c.in_ok-events.events in
    open_keeps setup.spec.now setup.script.now setup.halt c.in_ok-state.state events.items (vec_capacity events) (vec_len events) c.events_of.ensures.known c.requires.fits c.in_ok-state.ensures.opening (search rules) (search rules) (search rules)
