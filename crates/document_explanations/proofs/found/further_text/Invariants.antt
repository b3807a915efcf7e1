use Rattle.std.proofs.Common.{◌≡◌, ◌++◌, map}
use Rattle.json.specs.Print.{quoted}
use Rattle.serde_json.specs.View.{members_view, view}
use Rattle.document_explanations.specs.Found.{further_names, further_text}
use Rattle.document_explanations.proofs.Listing.{left_listed}
use Rattle.document_explanations.proofs.found.further_text.Given as goal

abbrev pub invariant-loop-name : goal.invariant-loop-name
invariant-loop-name l =
    l.lines ++ left_listed l.is_later (map quoted (further_names (view l.document) l.object (members_view l.name-iterator)))
    ≡ further_text (view l.document) l.object (members_view l.members.entries)
