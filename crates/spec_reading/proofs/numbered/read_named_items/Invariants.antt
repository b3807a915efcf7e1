use Rattle.std.proofs.Common.{◌≡◌, length, drop, []}
use Rattle.serde_json.specs.View.{items_view}
use Rattle.scram_doc.specs.Lists.{elements_from}
use Rattle.scram_doc.specs.Lists.{AllAfter}
use Rattle.spec_reading.proofs.numbered.read_named_items.Given as goal

abbrev pub invariant-loop-i : goal.invariant-loop-i
invariant-loop-i g l =
    (length l.done ≡ l.i)
    × (elements_from (g.E.NamedElements.reading l.elements) l.at l.i l.done (items_view (drop l.i l.items))
    ≡ elements_from (g.E.NamedElements.reading l.elements) l.at 0 [] (items_view l.items))
    × AllAfter (g.E.NamedElements.Fits l.elements) l.done
