use Rattle.std.proofs.Common.{◌≡◌, drop}
use Rattle.scram_types.specs.Lookups.{number_from}
use Rattle.scram_types.proofs.lookups.number_named.Given as goal

abbrev pub invariant-loop-i : goal.invariant-loop-i
invariant-loop-i g l = number_from g.T.Named.spelling l.i (drop l.i l.items) l.text ≡ number_from g.T.Named.spelling 0 l.items l.text
