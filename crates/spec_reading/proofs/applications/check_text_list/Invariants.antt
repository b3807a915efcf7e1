use Rattle.std.proofs.Common.{◌≡◌, drop}
use Rattle.serde_json.specs.View.{items_view}
use Rattle.scram_doc.specs.Lists.{folded_from}
use Rattle.spec_reading.specs.Applications.{check_text}
use Rattle.spec_reading.proofs.applications.check_text_list.Given as goal

abbrev pub invariant-loop-i : goal.invariant-loop-i
invariant-loop-i l = folded_from check_text l.at l.i tt (items_view (drop l.i l.items)) ≡ folded_from check_text l.at 0 tt (items_view l.items)
