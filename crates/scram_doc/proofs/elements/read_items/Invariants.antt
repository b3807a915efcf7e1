use Rattle.std.proofs.Common.{◌≡◌, length, drop, []}
use Rattle.serde_json.specs.View.{items_view}
use Rattle.scram_doc.specs.Lists.{elements_from}
use Rattle.scram_doc.specs.Lists.{AllAfter}
use Rattle.scram_doc.proofs.elements.read_items.Given as goal

abbrev pub invariant-loop-i : goal.invariant-loop-i
invariant-loop-i g l =
    (length l.done.items ≡ l.i)
    × (elements_from (g.E.Elements.reading l.elements) l.at l.i l.done.items (items_view (drop l.i l.items))
    ≡ elements_from (g.E.Elements.reading l.elements) l.at 0 [] (items_view l.items))
    × AllAfter (g.E.Elements.Fits l.elements) l.done.items
