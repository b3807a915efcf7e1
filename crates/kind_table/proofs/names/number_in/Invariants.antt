use Rattle.std.proofs.Common.{◌≡◌, drop, map, option_map}
use Rattle.kind_table.specs.Names.{number_in, number_in_from}
use Rattle.kind_table.proofs.names.number_in.Given as goal

abbrev pub invariant-loop-name : goal.invariant-loop-name
invariant-loop-name l = (l.number ≡ l.name-index)
    × (number_in_from l.number (map (option_map (λ s. s.now)) (drop l.name-index l.names)) l.text ≡ number_in (map (option_map (λ s. s.now)) l.names) l.text)
