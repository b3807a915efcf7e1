use Rattle.std.proofs.Common.{◌≡◌, drop}
use Rattle.std.specs.Prelude.{None, replicate}
use Rattle.serde_json.specs.View.{items_view}
use Rattle.scram_doc.specs.Lists.{folded_from}
use Rattle.spec_reading.specs.Configurations.{read_place}
use Rattle.spec_reading.specs.TableFacts.{ArePlaces}
use Rattle.spec_reading.proofs.configurations.read_places.Given as goal

abbrev pub invariant-loop-i : goal.invariant-loop-i
invariant-loop-i l =
    (folded_from (read_place l.procs l.apps) l.at l.i l.places (items_view (drop l.i l.items))
    ≡ folded_from (read_place l.procs l.apps) l.at 0 (replicate 8 None) (items_view l.items))
    × ArePlaces l.procs l.apps l.places
