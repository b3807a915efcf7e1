use Rattle.std.proofs.Common.{◌≡◌, length}
use denote.Text.{Utf8}
use denote.Shadow.{shadow}
use Rattle.trace_text.specs.Pieces.{pieces_of}
use Rattle.document_explanations.specs.Paths.{all_but_last, wanted_along}
use Rattle.document_explanations.proofs.paths.descend.Given as goal

abbrev pub invariant-loop-level : goal.invariant-loop-level
invariant-loop-level l =
    shadow (Utf8 l.rest) × (wanted_along (pieces_of 46 l.levels) l.fn.start ≡ wanted_along (pieces_of 46 l.rest) l.wanted)
    × (wanted_along (all_but_last (pieces_of 46 l.levels)) l.fn.start ≡ wanted_along (all_but_last (pieces_of 46 l.rest)) l.wanted)

abbrev pub decreases-loop-level : goal.decreases-loop-level
decreases-loop-level l = length l.rest
