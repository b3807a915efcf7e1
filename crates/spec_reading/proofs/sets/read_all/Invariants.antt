use Rattle.std.proofs.Common.{◌≡◌, ◌<◌, ◌^◌, length, drop}
use Rattle.serde_json.specs.View.{items_view}
use Rattle.scram_doc.specs.Lists.{folded_from}
use Rattle.spec_reading.specs.TableFacts.{IsApart}
use Rattle.spec_reading.specs.Sets.{read_into}
use Rattle.spec_reading.proofs.sets.read_all.Given as goal

abbrev pub invariant-loop-i : goal.invariant-loop-i
invariant-loop-i g l = record {
  value :
      folded_from (read_into g.N.Naming.spelling l.items l.refused.unknown l.refused.barred) l.at l.i l.set (items_view (drop l.i l.values))
      ≡ folded_from (read_into g.N.Naming.spelling l.items l.refused.unknown l.refused.barred) l.at 0 0 (items_view l.values);
  below : l.set < 2 ^ length l.items;
  apart : IsApart l.set l.refused.barred;
}
