use Rattle.std.proofs.Common.{◌≡◌, List, ◌++◌, take, map}
use Rattle.serde_json.specs.View.{members_view, view}
use Rattle.serde_json.specs.declared.value.Value.{Value}
use Rattle.serde_json.proofs.Views.{Entry}
use Rattle.document_explanations.specs.Values.{members_without_floats, without_floats}
use Rattle.document_explanations.proofs.values.+without_floats.Given as goal

abbrev pub invariant-items_without_floats-loop-item : goal.invariant-items_without_floats-loop-item
invariant-items_without_floats-loop-item l = map view l.copies.items ≡ map (λ (v : Value). without_floats (view v)) (take l.item-index l.item-items)

abbrev pub invariant-members_without_floats-loop-key : goal.invariant-members_without_floats-loop-key
invariant-members_without_floats-loop-key l =
    (done : List Entry) × (l.members.entries ≡ done ++ l.key-iterator) × (members_view l.copies.entries ≡ members_without_floats (members_view done))
