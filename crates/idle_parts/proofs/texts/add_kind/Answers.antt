use Rattle.std.proofs.Common.{◌≡◌, ◌++◌, ◌∙◌, ap, arith}
use Rattle.form_base.proofs.TextsBelow.{added_next}
use Rattle.form_base.specs.Texts.{texts_below}
use Rattle.idle_parts.specs.Texts.{idle_part_text, part_count}
use Rattle.idle_parts.proofs.texts.add_kind.Goals as goal

pub loop-n-preserved : goal.loop-n-preserved
loop-n-preserved c = added_next (idle_part_text c.args.spec.now c.args.kind) c.loop-n.n _ _ _ c.loop-n.invariant c.in_ok-add_part.ensures

pub returns : goal.returns
returns c =
    let end : c.loop-n.n ≡ part_count c.args.spec.now c.args.kind = omega (arith, c.part_count-n-end.ensures.value) in
    c.loop-n.invariant ∙ ap (λ n. c.args.text.now.items ++ texts_below (idle_part_text c.args.spec.now c.args.kind) n) end
