use Rattle.std.proofs.Common.{◌++◌, [], ◌∙◌, ap, List, ℕ, decimal}
use Rattle.std.specs.Prelude.{codes}
use Rattle.form_base.specs.Lines.{rule_text}
use Rattle.document_explanations.proofs.Joining.{long_lines}
use Rattle.document_explanations.proofs.long_documents.make_long_lines.Goals as goal

pub returns : goal.returns
returns c =
    let rule = (rw (c.root.ensures) at c.add_rule.ensures.text) ∙ ap (λ (text : List ℕ). text ++ rule_text c.args.rule []) (c.text.ensures.text ∙ ap (λ (text : List ℕ). text ++ c.args.first.now) c.new-lines.ensures) in
    let number = (rw (c.from.ensures) at c.number.ensures.text) ∙ ap (λ (text : List ℕ). text ++ decimal c.args.rule) (c.text-2.ensures.text ∙ ap (λ (text : List ℕ). text ++ codes "\n  rule ") rule) in
    let limit = c.number-2.ensures.text ∙ ap (λ (text : List ℕ). text ++ decimal c.args.limit) (c.text-3.ensures.text ∙ ap (λ (text : List ℕ). text ++ codes ": more than ") number) in
    c.text-4.ensures.text ∙ ap (λ (text : List ℕ). text ++ codes " bytes\n") limit ∙ long_lines c.args.first.now (rule_text c.args.rule []) (decimal c.args.rule) (decimal c.args.limit)
