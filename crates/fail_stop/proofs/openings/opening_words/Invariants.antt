use Rattle.std.proofs.Common.{◌≡◌}
use Rattle.scram_types.specs.Searches.{listed_below}
use Rattle.fail_stop.specs.Openings.{opening_at}
use Rattle.fail_stop.proofs.openings.opening_words.Given as goal

abbrev pub invariant-loop-n : goal.invariant-loop-n
invariant-loop-n l = l.words.items ≡ listed_below (opening_at l.fn.frames l.first l.sys.areas l.sys.keepers) l.n
