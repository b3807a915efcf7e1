use Rattle.std.proofs.Common.{◌++◌, ◌∙◌, ap, List, ℕ}
use Rattle.std.specs.Prelude.{codes}
use Rattle.form_base.specs.Lines.{cycle_text, rule_text}
use Rattle.document_explanations.proofs.Joining.{joined_four, on_ok}
use Rattle.document_explanations.proofs.first_lines.add_specification_line.Goals as goal

pub returns : goal.returns
returns c =
    let start = c.in_ok-push.ensures in
    let ruled = c.in_ok-add_rule.ensures ∙ ap (λ (text : List ℕ). text ++ rule_text c.args.fault.now.rule c.args.fault.now.path) start in
    let cycled = (rw (c.as_slice.ensures.value) at c.in_ok-add_cycle.ensures) ∙ ap (λ (text : List ℕ). text ++ cycle_text c.args.fault.now.names.items) ruled in
    on_ok c.push-2.result
    (λ is. is ∙ ap (λ (text : List ℕ). text ++ codes "\n") cycled
    ∙ joined_four c.args.lines.now (codes "refused: specification") (rule_text c.args.fault.now.rule c.args.fault.now.path) (cycle_text c.args.fault.now.names.items) (codes "\n"))
    c.push-2.ensures
