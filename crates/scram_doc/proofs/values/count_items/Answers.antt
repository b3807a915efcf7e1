use Rattle.std.proofs.Common.{refl}
use Rattle.serde_json.proofs.Views.{items_len-items_view}
use Rattle.scram_doc.proofs.values.count_items.Goals as goal

pub returns-clause-view : goal.returns-clause-view
returns-clause-view c = rw (items_len-items_view) refl
