use Rattle.std.proofs.Common.{◌≡◌, drop, length, []}
use Rattle.std.specs.Option.{option_copied}
use Rattle.serde_json.specs.View.{items_view}
use Rattle.scram_doc.specs.Lists.{AllAfter, folded_from}
use Rattle.spec_reading.specs.Demands.{read_on_mode}
use Rattle.spec_reading.specs.TableFacts.{IsNewOn}
use Rattle.spec_reading.proofs.demands.read_on_modes.Given as goal

abbrev pub invariant-loop-i : goal.invariant-loop-i
invariant-loop-i l = record {
  value :
      folded_from (read_on_mode (option_copied l.app)) l.at l.i l.modes (items_view (drop l.i l.items))
      ≡ folded_from (read_on_mode (option_copied l.app)) l.at 0 [] (items_view l.items);
  count : length l.modes ≡ l.i;
  each : AllAfter (IsNewOn (option_copied l.app)) l.modes;
}
