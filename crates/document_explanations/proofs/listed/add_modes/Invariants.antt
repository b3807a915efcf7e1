use Rattle.std.proofs.Common.{◌≡◌, ◌++◌, drop, map, option_map}
use Rattle.document_explanations.specs.Wants.{spaced}
use Rattle.document_explanations.proofs.listed.add_modes.Given as goal

abbrev pub invariant-loop-name : goal.invariant-loop-name
invariant-loop-name l =
    l.lines ++ spaced (map (option_map (λ s. s.now)) (drop l.name-index l.names)) ≡ l.initial.lines ++ spaced (map (option_map (λ s. s.now)) l.names)
