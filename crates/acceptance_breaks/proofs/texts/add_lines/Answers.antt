use Rattle.std.proofs.Common.{List, sym, ◌++◌, ◌∙◌}
use Rattle.std.proofs.lemmas.List.{append-nil, at_drop_all}
use Rattle.std.proofs.lemmas.Option.{slice_get-get_or}
use Rattle.condition_breaks.specs.declared.breaks.Break.{Break}
use Rattle.acceptance_breaks.specs.Texts.{lines_text}
use Rattle.acceptance_breaks.proofs.texts.add_lines.Goals as goal

pub add_line-requires : goal.add_line-requires
add_line-requires c = record {
  known = c.requires.known;
  shown = c.requires.shown c.loop-broken.broken-index _ (slice_get-get_or c.args.found.now c.loop-broken.broken-index _ c.loop-broken-test.true);
}

pub returns : goal.returns
returns c =
    let text = c.loop-broken.text.items in
    let none_left = at_drop_all (λ (left : List Break). text ++ lines_text c.args.spec.now left) c.args.found.now c.loop-broken.broken-index c.loop-broken-test.false in
    sym (append-nil text) ∙ sym none_left ∙ c.loop-broken.invariant
