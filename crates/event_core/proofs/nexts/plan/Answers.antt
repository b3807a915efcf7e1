use Rattle.std.proofs.Common.{◌≡◌, ◌∙◌, sym, ap, false}
use Rattle.std.specs.Prelude.{option_map}
use Rattle.scram_types.specs.declared.scripts.HaltAt.{HaltAt}
use Rattle.fail_stop.specs.Events.{halts_at}
use Rattle.fail_stop.specs.ScriptFlights.{flight_of, halt_step}
use Rattle.event_core.proofs.nexts.plan.Goals as goal

pub returns-else-halts_at : goal.returns-else-halts_at
returns-else-halts_at c =
    let m = flight_of c.args.spec.now c.args.script.now in
    let goes_on : halts_at m c.args.step (halt_step c.args.script.now c.args.p.0 c.args.frame) ≡ false =
    ap (λ o. halts_at m c.args.step (option_map (λ (halt : HaltAt). halt.step) o)) (sym c.halt_in.ensures) ∙ sym (c.halts_at.ensures c.args.script.now) ∙ c.if-halts_at.false in
    rw goes_on (c.plan_step.ensures c.args.script.now)
