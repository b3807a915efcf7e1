use Rattle.std.proofs.Common.{ℕ, List, arith, subst}
use Rattle.form_base.specs.Endings.{IsTaken}
use Rattle.form_base.specs.declared.status.TheConstants.{BROKEN_USAGE}
use Rattle.form_base.proofs.Endings.{given_prints}
use Rattle.scram_cli.specs.Answers.{usage_line}
use Rattle.scram_cli.proofs.command.refuse_usage.Goals as goal

pub returns : goal.returns
returns g c =
    given_prints BROKEN_USAGE usage_line _ _ _ (λ same. absurd (omega (arith, same))) (λ same. absurd (omega (arith, same)))
    (subst (λ (told : ℕ × List ℕ). IsTaken (g.K.Sink.state c.args.out.now) (g.K.Sink.state c.print_refusal.new.out) c.print_refusal.result.code told.0 told.1)
    c.usage.ensures c.print_refusal.ensures)
