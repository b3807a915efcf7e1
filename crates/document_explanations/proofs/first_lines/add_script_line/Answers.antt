use Rattle.std.proofs.Common.{◌++◌, ◌∙◌, ap, List, ℕ}
use Rattle.std.specs.Prelude.{codes}
use Rattle.form_base.specs.Lines.{rule_text}
use Rattle.document_explanations.proofs.Joining.{joined_three, on_ok}
use Rattle.document_explanations.proofs.first_lines.add_script_line.Goals as goal

pub returns : goal.returns
returns c =
    let ruled = c.in_ok-add_rule.ensures ∙ ap (λ (text : List ℕ). text ++ rule_text c.args.fault.now.rule c.args.fault.now.path) c.in_ok-push.ensures in
    on_ok c.push-2.result
    (λ is. is ∙ ap (λ (text : List ℕ). text ++ codes "\n") ruled
    ∙ joined_three c.args.lines.now (codes "refused: script") (rule_text c.args.fault.now.rule c.args.fault.now.path) (codes "\n"))
    c.push-2.ensures
