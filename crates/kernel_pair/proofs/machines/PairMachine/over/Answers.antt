use Rattle.std.proofs.Common.{rules, ◌≡◌, ◌≢◌}
use Rattle.std.specs.Prelude.{None, vec_capacity, vec_len}
use Rattle.fail_stop.specs.ScriptFlights.{flight_of}
use Rattle.fail_stop.proofs.ScriptBorder.{restarts_within, script_flies}
use Rattle.kernel_pair.specs.Pairs.{IsAtEnd}
use Rattle.kernel_pair.specs.States.{pair_of}
use Rattle.kernel_pair.proofs.Allowed.{kept_in}
use Rattle.kernel_pair.proofs.Facts.{last_ends}
use Rattle.kernel_pair.proofs.Moving.{two}
use Rattle.kernel_pair.proofs.Progress.{over_by}
use Rattle.kernel_pair.proofs.machines.PairMachine.over.Goals as goal

pub returns-then-is_at_end : goal.returns-then-is_at_end
returns-then-is_at_end c =
    let k = c.self.inside in
    let first : ((pair_of k.state).unit 0).stopped ≡ None → IsAtEnd (flight_of k.setup.spec.now k.setup.script.now) ((pair_of k.state).unit 0) = search rules in
    let some : k.setup.script.now.frames ≢ 0 = search rules in
    rw (← c.self.view_is) (
      (λ t. over_by (flight_of k.setup.spec.now k.setup.script.now) k.setup.halt (pair_of k.state) (script_flies k.setup.spec.now k.setup.script.now c.self.invariant.fits) (restarts_within k.setup.spec.now k.setup.script.now c.self.invariant.fits)
          (kept_in k.setup.spec.now k.setup.script.now k.setup.halt k.state k.events.items (vec_capacity k.events) (vec_len k.events) c.self.invariant)
          (two (λ u. ((pair_of k.state).unit u).stopped ≡ None → IsAtEnd (flight_of k.setup.spec.now k.setup.script.now) ((pair_of k.state).unit u)) first (c.is_at_end-then-is_at_end.ensures.0 t))),
      (λ o. c.is_at_end-then-is_at_end.ensures.1 (last_ends (flight_of k.setup.spec.now k.setup.script.now) (pair_of k.state) some o)),
    )
