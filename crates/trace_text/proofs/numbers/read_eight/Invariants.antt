use Rattle.std.proofs.Common.{◌≡◌, ◌-◌, ◌+◌, ◌++◌, ℤ, List, length}
use Rattle.std.specs.Prelude.{option_map}
use Rattle.trace_text.specs.Spelling.{signed_from}
use Rattle.trace_text.proofs.numbers.read_eight.Given as goal

abbrev pub invariant-loop-k : goal.invariant-loop-k
invariant-loop-k l = record {
  rest : option_map (λ (more : List ℤ). l.values.items ++ more) (signed_from (8 - l.k) (l.from + l.k) l.words) ≡ signed_from 8 l.from l.words;
  count : length l.values.items ≡ l.k;
}

abbrev pub decreases-loop-k : goal.decreases-loop-k
decreases-loop-k l = 8 - l.k
