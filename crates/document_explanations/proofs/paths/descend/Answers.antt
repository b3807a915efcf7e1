use Rattle.std.proofs.Common.{rules, ◌≡◌, ◌∙◌, arith, ap, sym, List, ℕ, None, option_and_then}
use Rattle.trace_text.specs.Pieces.{pieces_of}
use Rattle.document_explanations.specs.Paths.{all_but_last, wanted_below, wanted_along}
use Rattle.document_explanations.proofs.Levels.{and_then_itself, step_above, step_whole}
use Rattle.document_explanations.proofs.paths.descend.Goals as goal

pub returns-in_err-wanted-clause-above : goal.returns-in_err-wanted-clause-above
returns-in_err-wanted-clause-above c =
    let l = c.loop-level in
    let gone : c.from_residual.result ≡ None = grind arith in
    let turn = l.invariant.2 ∙ step_above l.rest.now c.in-Some.level.now c.in-Some.more.now l.wanted c.in-Some.ensures.pieces in
    rw gone (turn ∙ ap (option_and_then (wanted_along (all_but_last (pieces_of 46 c.in-Some.more.now)))) (sym c.in_err-wanted.ensures))

pub loop-level-preserved : goal.loop-level-preserved
loop-level-preserved c =
    let l = c.loop-level in
    let whole = l.invariant.1 ∙ step_whole l.rest.now c.in-Some.level.now c.in-Some.more.now l.wanted c.in-Some.ensures.pieces in
    let above = l.invariant.2 ∙ step_above l.rest.now c.in-Some.level.now c.in-Some.more.now l.wanted c.in-Some.ensures.pieces in (
      search rules,
      whole ∙ ap (option_and_then (wanted_along (pieces_of 46 c.in-Some.more.now))) (sym c.in_ok-wanted.ensures),
      above ∙ ap (option_and_then (wanted_along (all_but_last (pieces_of 46 c.in-Some.more.now)))) (sym c.in_ok-wanted.ensures),
    )

pub returns-clause-whole : goal.returns-clause-whole
returns-clause-whole c =
    let l = c.loop-level in
    l.invariant.1 ∙ ap (λ (levels : List (List ℕ)). wanted_along levels l.wanted) c.in_default.ensures.pieces ∙ and_then_itself (wanted_below l.wanted l.rest.now)
