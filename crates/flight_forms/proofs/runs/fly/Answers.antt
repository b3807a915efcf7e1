use Rattle.std.proofs.Common.{ℕ, List, subst}
use Rattle.form_base.specs.Endings.{IsTaken}
use Rattle.form_base.proofs.Endings.{memory_prints}
use Rattle.flight_forms.proofs.runs.fly.Goals as goal

pub returns-in-Err : goal.returns-in-Err
returns-in-Err g c =
    memory_prints _ _ _ _
    (subst (λ (told : ℕ × List ℕ). IsTaken (g.K.Sink.state c.args.out.now) (g.K.Sink.state c.print_refusal.new.out) c.print_refusal.result.code told.0 told.1)
    c.out_of_memory.ensures c.print_refusal.ensures)
