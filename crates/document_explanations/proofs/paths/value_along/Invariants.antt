use Rattle.std.proofs.Common.{◌≡◌, length}
use denote.Text.{Utf8}
use denote.Shadow.{shadow}
use Rattle.serde_json.specs.View.{view}
use Rattle.trace_text.specs.Pieces.{pieces_of}
use Rattle.document_explanations.specs.Paths.{value_along}
use Rattle.document_explanations.proofs.paths.value_along.Given as goal

abbrev pub invariant-loop-level : goal.invariant-loop-level
invariant-loop-level l = shadow (Utf8 l.rest) × (value_along (pieces_of 46 l.levels) (view l.v) ≡ value_along (pieces_of 46 l.rest) (view l.found))

abbrev pub decreases-loop-level : goal.decreases-loop-level
decreases-loop-level l = length l.rest
