use Rattle.std.proofs.Common.{◌≡◌, drop}
use Rattle.std.specs.Prelude.{None, replicate}
use Rattle.serde_json.specs.View.{items_view}
use Rattle.scram_doc.specs.Lists.{folded_from}
use Rattle.spec_reading.specs.Demands.{read_on_app}
use Rattle.spec_reading.specs.TableFacts.{AreOn}
use Rattle.spec_reading.proofs.demands.read_modes_on.Given as goal

abbrev pub invariant-loop-i : goal.invariant-loop-i
invariant-loop-i l =
    (folded_from (read_on_app l.apps) l.at l.i l.on (items_view (drop l.i l.items))
    ≡ folded_from (read_on_app l.apps) l.at 0 (replicate 8 None) (items_view l.items))
    × AreOn l.apps l.on
