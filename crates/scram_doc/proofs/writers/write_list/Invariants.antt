use Rattle.std.proofs.Common.{◌≡◌, ◌++◌, map, drop}
use Rattle.serde_json.specs.View.{view}
use Rattle.scram_doc.proofs.writers.write_list.Given as goal

abbrev pub invariant-loop-item : goal.invariant-loop-item
invariant-loop-item g l =
    map view l.values.items ++ map (g.W.Writes.written l.writer) (drop l.item-index l.items) ≡ map (g.W.Writes.written l.writer) l.items
