use Rattle.std.proofs.Common.{◌∷◌, [], ◌+◌, append_assoc, drop, get_or, map, sym, ◌++◌, ◌∙◌}
use Rattle.std.proofs.lemmas.List.{append-nil, at_drop_all, at_drop_more, map-append}
use Rattle.serde_json.specs.View.{view}
use Rattle.scram_doc.proofs.writers.write_list.Goals as goal

pub loop-item-preserved : goal.loop-item-preserved
loop-item-preserved g c =
    let written = g.W.Writes.written c.args.writer.now in
    let values = c.loop-item.values.items in
    let items = c.args.items.now in
    let i = c.loop-item.item-index in
    let rest = map written (drop (i + 1) items) in
    rw (c.in_ok-push.ensures.ok, map-append view values (c.in_ok-value.value ∷ []), c.in_ok-value.ensures, c.item-item.is) (
    append_assoc (map view values) (written (get_or items i c.item-item.result) ∷ []) rest
    ∙ sym (at_drop_more (λ left. map view values ++ map written left) items i c.item-item.result c.loop-item-test.true)
    ∙ c.loop-item.invariant)

pub returns : goal.returns
returns g c =
    let values = map view c.loop-item.values.items in
    let none_left = at_drop_all (λ left. values ++ map (g.W.Writes.written c.args.writer.now) left) c.args.items.now c.loop-item.item-index c.loop-item-test.false in
    sym (append-nil values) ∙ sym none_left ∙ c.loop-item.invariant
