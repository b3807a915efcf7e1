use Rattle.std.proofs.Common.{◌∙◌, arith, string_bytes, sym}
use Rattle.document_explanations.proofs.CharCounts.{cut_dots, cut_whole, shown_cut}
use Rattle.document_explanations.proofs.found.cut.Goals as goal

pub returns-then-len : goal.returns-then-len
returns-then-len c =
    let shown = (rw (c.laid_out.ensures) at c.in_ok-short.ensures.ok) ∙ shown_cut (string_bytes c.args.text) in
    sym (cut_whole (string_bytes c.args.text) (string_bytes c.in_ok-short.short) shown (omega (arith, c.if-len.true, c.len.ensures, c.len-2.ensures)))

pub returns-in_ok-format : goal.returns-in_ok-format
returns-in_ok-format c =
    let shown = (rw (c.laid_out.ensures) at c.in_ok-short.ensures.ok) ∙ shown_cut (string_bytes c.args.text) in
    c.in_ok-format.ensures.ok
    ∙ sym (cut_dots (string_bytes c.args.text) (string_bytes c.in_ok-short.short) shown (λ same. omega (arith, same, c.if-len.false, c.len.ensures, c.len-2.ensures)))
