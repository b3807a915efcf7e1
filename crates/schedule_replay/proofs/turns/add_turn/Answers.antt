use Rattle.std.proofs.Common.{◌≡◌, sym, ◌∙◌, true}
use Rattle.fault_script.specs.Times.{is_up}
use Rattle.schedule_replay.proofs.turns.add_turn.Goals as goal

pub returns-then-up_at : goal.returns-then-up_at
returns-then-up_at c =
    let up : is_up c.args.script.now c.args.p.0 c.args.frame ≡ true = sym c.up_at.ensures ∙ c.if-up_at.true in
    rw (up, ← c.halt_in.ensures) (c.add_steps.ensures c.args.script.now)
