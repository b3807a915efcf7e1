use Rattle.std.proofs.Common.{◌≡◌, List, ℕ, rules, subst}
use Rattle.form_base.specs.Endings.{IsTaken}
use Rattle.form_base.specs.declared.status.TheConstants.{ANSWERED}
use Rattle.form_base.proofs.Endings.{answered_prints}
use Rattle.scram_cli.specs.Pages.{page_text}
use Rattle.scram_cli.proofs.command.print_page.Goals as goal

pub returns : goal.returns
returns g c =
    let bytes : c.as_bytes.result.now ≡ page_text c.args.page = search rules in
    answered_prints (page_text c.args.page) _ _ _
    (subst (λ (text : List ℕ). IsTaken (g.K.Sink.state c.args.out.now) (g.K.Sink.state c.print_text.new.out) c.print_text.result.code ANSWERED text) bytes c.print_text.ensures)
